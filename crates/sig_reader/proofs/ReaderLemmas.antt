-- The lines of a text, one after another.
use Rattle.std.proofs.Common.{◌≡◌, ℕ, ◌+◌, ◌<◌, ◌≤◌, List, [], ◌∷◌, length, drop, ◌==◌, true, false, Option, Result, Ok, Err, refl, sym, ◌∙◌, ap}
use Rattle.std.proofs.lemmas.List.{drop_all}
use Rattle.sig_tokens.specs.declared.fault.FaultKind.{FaultKind}
use Rattle.sig_tokens.specs.declared.fault.FaultKind.TheVariants.{Header}
use Rattle.sig_tokens.specs.declared.known.Known.{Known}
use Rattle.sig_reader.specs.declared.draft.Draft.{Draft}
use Rattle.sig_program.specs.declared.version.Version.{Version}
use Rattle.sig_program.specs.declared.version.Version.TheVariants.{One}
use Rattle.sig_program.specs.Scripts.{Program}
use Rattle.sig_tokens.specs.Faults.{Fault}
use Rattle.sig_tokens.specs.Lines.{lines_of}
use Rattle.sig_tokens.specs.Tokens.{tokens_of}
use Rattle.sig_reader.specs.Grammar.{at_line, finished, line_taken, body, header_of, script_behind, script_of_lines}
use Rattle.sig_tokens.proofs.LineLemmas.{first_of, rest_at, line-front, lines-whole, nonempty}

-- a line that is taken
pub step_taken : (known : Known) (n at : ℕ) (bytes line : List ℕ) (d e : Draft) (v : Result Program Fault) →
    at < length bytes → line ≡ first_of (rest_at at bytes) → line_taken known d line ≡ Ok e →
    body known n d (lines_of (drop at bytes)) ≡ v → body known (n + 1) e (lines_of (drop (at + (length line + 1)) bytes)) ≡ v
unfolding body
step_taken known n at bytes line d e v lt is taken whole =
    let next : List (List ℕ) = lines_of (drop (at + (length line + 1)) bytes) in
    let one : body known n d (line ∷ next) ≡ body known (n + 1) e next = rw taken refl in
    sym one ∙ ap (λ (ls : List (List ℕ)). body known n d ls) (sym (line-front at bytes line lt is)) ∙ whole

-- a line that is refused
pub step_refused : (known : Known) (n at : ℕ) (bytes line : List ℕ) (d : Draft) (kind : FaultKind) (v : Result Program Fault) →
    at < length bytes → line ≡ first_of (rest_at at bytes) → line_taken known d line ≡ Err kind →
    body known n d (lines_of (drop at bytes)) ≡ v → v ≡ at_line n kind
unfolding body
step_refused known n at bytes line d kind v lt is taken whole =
    let next : List (List ℕ) = lines_of (drop (at + (length line + 1)) bytes) in
    let one : body known n d (line ∷ next) ≡ at_line n kind = rw taken refl in
    sym (sym one ∙ ap (λ (ls : List (List ℕ)). body known n d ls) (sym (line-front at bytes line lt is)) ∙ whole)

-- no line is left
pub lines_end : (known : Known) (n at : ℕ) (bytes : List ℕ) (d : Draft) (v : Result Program Fault) → length bytes ≤ at →
    body known n d (lines_of (drop at bytes)) ≡ v → finished n d d.section ≡ v
unfolding body
lines_end known n at bytes d v h whole = ap (λ (xs : List ℕ). body known n d (lines_of xs)) (sym (drop_all at bytes h)) ∙ whole

-- the first line
pub no_line : (bytes : List ℕ) → (length bytes == 0) ≡ true → script_of_lines (lines_of bytes) ≡ at_line 1 Header
unfolding script_of_lines
no_line [] h = refl
no_line (b ∷ bs) h = cc (nonempty b bs)

pub behind_header : (bytes line : List ℕ) (version : Option Version) → (length bytes == 0) ≡ false → line ≡ first_of bytes → version ≡ header_of (tokens_of One line) line →
    script_of_lines (lines_of bytes) ≡ script_behind version (lines_of (drop (length line + 1) bytes))
unfolding script_of_lines
behind_header bytes line version some is header =
    rw (lines-whole bytes some, header, is) refl
