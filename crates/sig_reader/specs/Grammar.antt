-- The script that a text spells, or the first line that is refused and why. The language of scripts is this project's own.
use Rattle.std.specs.Prelude.{ℕ, ◌+◌, List, [], ◌∷◌, length, nat_le, codes, if◌then◌else◌, Option, Some, None, Result, Ok, Err}
use Rattle.std.specs.Str.{bytes_eq}
use Rattle.sig_tokens.specs.declared.fault.FaultKind.{FaultKind}
use Rattle.sig_tokens.specs.declared.fault.FaultKind.TheVariants.{Header, Syntax, TooLong}
use Rattle.sig_tokens.specs.declared.token.TokenKind.{TokenKind}
use Rattle.sig_tokens.specs.declared.token.TokenKind.TheVariants.{Integer}
use Rattle.sig_tokens.specs.declared.token.Token.{Token}
use Rattle.sig_tokens.specs.declared.known.Known.{Known}
use Rattle.sig_tokens.specs.declared.known.Known.TheVariants.{Any, Among}
use Rattle.sig_reader.specs.declared.draft.Section.{Section}
use Rattle.sig_reader.specs.declared.draft.Section.TheVariants.{Inside}
use Rattle.sig_reader.specs.declared.draft.Draft.{Draft}
use Rattle.sig_reader.specs.declared.form.Form.{Form}
use Rattle.sig_program.specs.declared.version.Version.{Version}
use Rattle.sig_program.specs.declared.version.Version.TheVariants.{One, Two}
use Rattle.sig_program.specs.Scripts.{Program}
use Rattle.sig_tokens.specs.Faults.{Fault, ◌>>=◌}
use Rattle.sig_tokens.specs.Lines.{lines_of}
use Rattle.sig_tokens.specs.Tokens.{text, tokens_of}
use Rattle.sig_tokens.specs.Numbers.{is_one, is_two}
use Rattle.sig_reader.specs.Forms.{said}
use Rattle.sig_reader.specs.Drafts.{blank, program_of, taken}
use Rattle.sig_reader.specs.declared.reader.TheConstants.{MOST_BYTES}

-- a refusal of this line
abbrev pub at_line : {A : Type 0} → ℕ → FaultKind → Result A Fault
at_line n kind = Err (record { line = n; kind = kind })

-- what is refused is refused at this line
abbrev pub located : {A : Type 0} → ℕ → Result A FaultKind → Result A Fault
located n (Ok x) = Ok x
located n (Err kind) = at_line n kind

-- A text doesn't end inside a receive. The line that is refused is the one after the last.
abbrev pub finished : ℕ → Draft → Section → Result Program Fault
finished n d (Inside p r) = at_line n Syntax
finished n d _ = Ok (program_of d)

-- a line that says nothing is passed over
abbrev pub taken_if : Draft → Option Form → Result Draft FaultKind
taken_if d None = Ok d
taken_if d (Some f) = taken d f

-- one line behind what was read so far
abbrev pub line_taken : Known → Draft → List ℕ → Result Draft FaultKind
line_taken known d line = said known d line >>= taken_if d

-- the lines from number n on, behind what was read so far
unfoldable pub body : Known → ℕ → Draft → List (List ℕ) → Result Program Fault
body known n d [] = finished n d d.section
body known n d (line ∷ lines) = located n (line_taken known d line) >>= λ e. body known (n + 1) e lines

-- the script of this version of the lines after the first
abbrev pub walk : Version → Known → List (List ℕ) → Result Program Fault
walk version known lines = body known 2 (blank version) lines

-- the version that a token tells: an integer of value 1 or 2
abbrev pub version_of : TokenKind → List ℕ → Option Version
version_of Integer text = if is_one text then Some One else if is_two text then Some Two else None
version_of _ text = None

-- The first line is the name `sigscript` and the version.
abbrev pub version_at : List ℕ → List Token → Option Version
version_at line (word ∷ number ∷ []) = if bytes_eq (text line word) (codes "sigscript") then version_of number.kind (text line number) else None
version_at line _ = None

-- the version that the first line tells, on which each fault is the same: it isn't the header
abbrev pub header_of : Result (List Token) FaultKind → List ℕ → Option Version
header_of (Ok tokens) line = version_at line tokens
header_of (Err kind) line = None

-- The lines after the first are walked twice. In the first walk a name behind `@` is that of any process, and each label may
-- be one of any process; in the second one the names are those that the first has found.
abbrev pub walk_twice : Version → List (List ℕ) → Result Program Fault
walk_twice version lines = walk version Any lines >>= λ script. walk version (Among script) lines

-- the lines behind the header
abbrev pub script_behind : Option Version → List (List ℕ) → Result Program Fault
script_behind None lines = at_line 1 Header
script_behind (Some version) lines = walk_twice version lines

-- A text without lines has no header. The signs of version 2 aren't needed to tell the header.
unfoldable pub script_of_lines : List (List ℕ) → Result Program Fault
script_of_lines [] = at_line 1 Header
script_of_lines (first ∷ lines) = script_behind (header_of (tokens_of One first) first) lines

-- the script that the text spells, or its refusal; a text of more than MOST_BYTES bytes is refused as a whole
unfoldable pub script_of : List ℕ → Result Program Fault
script_of bytes = if nat_le (length bytes) MOST_BYTES then script_of_lines (lines_of bytes) else at_line 0 TooLong
