-- The expansion of calls: the text of a script, in which each call line of the given text is replaced by the lines that make the
-- call, as `gen_server:call/2` does since OTP 24: a monitor with an alias for one reply.
use Rattle.std.specs.Prelude.{◌≡◌, ◌≤◌, ℕ, ◌+◌, ◌-◌, List, [], ◌∷◌, ◌++◌, length, take, take_while, map, flat_map, not, ◌==◌, nat_le, codes, decimal, if◌then◌else◌, Bool, false, Option, Some, None, unwrap_or, Result, Ok, Err, slice_get, IfOk}
use Rattle.std.specs.List.{concat}
use Rattle.std.specs.Option.{option_map_or}
use Rattle.sig_program.specs.declared.version.Version.{Version}
use Rattle.sig_program.specs.declared.version.Version.TheVariants.{One}
use Rattle.sig_program.specs.Scripts.{Program}
use Rattle.sig_tokens.specs.Faults.{Fault, ◌>>=◌, on_ok}
use Rattle.sig_tokens.specs.Lines.{lines_of}
use Rattle.sig_tokens.specs.Tokens.{tokens_of}
use Rattle.sig_reader.specs.Grammar.{header_of, script_of}
use Rattle.sig_reader.specs.declared.reader.TheConstants.{MOST_BYTES}
use Rattle.sig_call.specs.declared.fault.CallFault.{CallFault}
use Rattle.sig_call.specs.declared.fault.CallError.{CallError}
use Rattle.sig_call.specs.declared.fault.CallError.TheVariants.{TooLong, Call, Script, Memory}
use Rattle.sig_call.specs.CallLine.{CallLine, said_of}

-- a line of the expanded text, and the number of the given line that it comes from
pub record Line : Type 0 where
  pub from : ℕ
  pub bytes : List ℕ

-- ` -> L`, where there is a label
abbrev pub arrow_text : Option (List ℕ) → List ℕ
arrow_text None = []
arrow_text (Some label) = codes " -> " ++ label

-- the clause that takes the down of the call whose number has these digits
abbrev pub down_line : List ℕ → CallLine → List ℕ
down_line digits c = concat (codes "on {'DOWN',^Call_" ∷ digits ∷ codes ",process,_," ∷ c.var ∷ codes "}" ∷ arrow_text c.label ∷ [])

-- the lines of that call
abbrev pub lines_with : List ℕ → CallLine → List (List ℕ)
lines_with digits c =
    codes "reserve"
    ∷ concat (codes "monitor Call_" ∷ digits ∷ codes " " ∷ c.target ∷ codes " reply_demonitor" ∷ [])
    ∷ concat (codes "bind Call_" ∷ digits ∷ [])
    ∷ concat (codes "send " ∷ c.target ∷ codes " {call,Call_" ∷ digits ∷ codes "," ∷ c.message ∷ codes "}" ∷ [])
    ∷ concat (codes "receive using Call_" ∷ digits ∷ [])
    ∷ concat (codes "on {^Call_" ∷ digits ∷ codes "," ∷ c.var ∷ codes "}" ∷ [])
    ∷ down_line digits c
    ∷ codes "end"
    ∷ []

-- the lines of call k
abbrev pub call_lines : ℕ → CallLine → List (List ℕ)
call_lines k c = lines_with (decimal k) c

-- the lines that stand for a line: its own, or those of call k
abbrev pub lines_for : ℕ → List ℕ → Option CallLine → List (List ℕ)
lines_for k line None = line ∷ []
lines_for k line (Some c) = call_lines k c

-- the number of the next call
abbrev pub next_call : ℕ → Option CallLine → ℕ
next_call k None = k
next_call k (Some c) = k + 1

-- what is refused is refused at this line
abbrev pub at_line : {A : Type 0} → ℕ → Result A CallFault → Result A CallError
at_line n (Ok x) = Ok x
at_line n (Err kind) = Err (Call n kind)

-- the lines that stand for the given lines from number n on, where the next call is call k; or the first that is refused
unfoldable pub expanded : Version → ℕ → ℕ → List (List ℕ) → Result (List Line) CallError
expanded version n k [] = Ok []
expanded version n k (line ∷ lines) =
    at_line n (said_of version line) >>= λ said.
    on_ok (λ more. map (λ l. record { from = n; bytes = l }) (lines_for k line said) ++ more) (expanded version (n + 1) (next_call k said) lines)

-- The version is that of the header, and 1 where the first line is none.
abbrev pub version_of : List ℕ → Version
version_of first = unwrap_or (header_of (tokens_of One first) first) One

abbrev pub first_line : List ℕ → List ℕ
first_line bytes = take_while (λ b. not (b == 10)) bytes

-- the lines of the expanded text
abbrev pub expansion_of : List ℕ → Result (List Line) CallError
expansion_of bytes = expanded (version_of (first_line bytes)) 1 1 (lines_of bytes)

-- the text ends with a line feed
abbrev pub ends_in_feed : List ℕ → Bool
ends_in_feed bytes = option_map_or (λ b. b == 10) (slice_get bytes (length bytes - 1)) false

-- the lines, each with a line feed behind it
abbrev pub fed : List (List ℕ) → List ℕ
fed lines = flat_map (λ line. line ++ 10 ∷ []) lines

-- the text of the lines, with a line feed behind the last one where the given text has it
abbrev pub text_of : Bool → List ℕ → List ℕ
text_of feed text = if feed then text else take (length text - 1) text

-- The given line from which a line of the expanded text comes. The line after the last stands for the line after the last, and 0 for 0.
abbrev pub given_line : List ℕ → ℕ → ℕ → ℕ
given_line from behind n = if n == 0 then 0 else unwrap_or (slice_get from (n - 1)) behind

-- what the reader of scripts says, with its refusal at the given line
abbrev pub at_given : (ℕ → ℕ) → Result Program Fault → Result Program CallError
at_given given (Ok script) = Ok script
at_given given (Err fault) = Err (Script (given fault.line) fault.kind)

-- the script that the expanded lines spell; of the given text it is told whether it ends with a line feed, and the line after its last
abbrev pub script_in : Bool → ℕ → List Line → Result Program CallError
script_in feed behind lines = at_given (given_line (map (λ (l : Line). l.from) lines) behind) (script_of (text_of feed (fed (map (λ (l : Line). l.bytes) lines))))

-- The script that a text of calls spells; or why it spells none: it is too long, else its first line that is refused as a call or for a
-- reserved variable, else the first refusal of the expanded text
unfoldable pub expansion : List ℕ → Result Program CallError
expansion bytes =
    if nat_le (length bytes) MOST_BYTES then
    (expansion_of bytes >>= λ lines. script_in (ends_in_feed bytes) (length (lines_of bytes) + 1) lines)
    else Err TooLong

-- The lines of the expanded text are the expanded lines, so that its line i is the i-th of these.
abbrev pub LinesStand : List ℕ → Type 0
LinesStand bytes =
    length bytes ≤ MOST_BYTES →
    IfOk (expansion_of bytes) (λ lines.
    let texts = map (λ (l : Line). l.bytes) lines in
    lines_of (text_of (ends_in_feed bytes) (fed texts)) ≡ texts)

-- What a call of this crate returned, seen by view, is what is said, unless memory ran out.
abbrev pub Stops : {Y : Type 0} → CallError → Result Y CallError → Type 0
Stops Memory said = Unit {0}
Stops (Call line kind) said = said ≡ Err (Call line kind)
Stops (Script line kind) said = said ≡ Err (Script line kind)
Stops TooLong said = said ≡ Err TooLong

abbrev pub Gives : {X Y : Type 0} → (X → Y) → Result X CallError → Result Y CallError → Type 0
Gives view (Ok x) said = said ≡ Ok (view x)
Gives view (Err e) said = Stops e said
