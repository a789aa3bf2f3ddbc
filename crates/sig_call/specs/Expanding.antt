-- The expansion line by line: the text so far, and from which given lines it comes.
use Rattle.std.specs.Prelude.{ℕ, ◌+◌, List, [], ◌∷◌, ◌++◌, Result, Ok}
use Rattle.sig_program.specs.declared.version.Version.{Version}
use Rattle.sig_tokens.specs.Faults.{◌>>=◌, on_ok}
use Rattle.sig_call.specs.declared.fault.CallError.{CallError}
use Rattle.sig_call.specs.CallLine.{said_of}
use Rattle.sig_call.specs.Expansion.{at_line, lines_for, next_call}

-- the bytes of the lines so far, each with a line feed behind it, and the numbers of the given lines that they come from
pub record ExpandedText : Type 0 where
  pub text : List ℕ
  pub from : List ℕ

abbrev pub blank : ExpandedText
blank = record { text = []; from = [] }

-- one line more
abbrev pub with_line : ExpandedText → ℕ → List ℕ → ExpandedText
with_line e n line = record { text = e.text ++ line ++ 10 ∷ []; from = e.from ++ n ∷ [] }

-- some lines more, of one given line
abbrev pub with_lines : ExpandedText → ℕ → List (List ℕ) → ExpandedText
with_lines e n [] = e
with_lines e n (line ∷ lines) = with_lines (with_line e n line) n lines

-- given line n, where the next call is call k: the number of the call behind it, and its lines behind those so far
abbrev pub line_expanded : Version → ℕ → ℕ → ExpandedText → List ℕ → Result (ℕ × ExpandedText) CallError
line_expanded version n k e line = on_ok (λ said. (next_call k said, with_lines e n (lines_for k line said))) (at_line n (said_of version line))

-- the given lines from number n on
unfoldable pub lines_expanded : Version → ℕ → ℕ → ExpandedText → List (List ℕ) → Result ExpandedText CallError
lines_expanded version n k e [] = Ok e
lines_expanded version n k e (line ∷ lines) = line_expanded version n k e line >>= λ x. lines_expanded version (n + 1) x.0 x.1 lines
