-- The word of each refusal, and the text of an error (both are this project's own).
use Rattle.std.specs.Prelude.{ℕ, List, ◌++◌, codes, decimal}
use Rattle.sig_tokens.specs.declared.fault.FaultKind.{FaultKind}
use Rattle.sig_tokens.specs.declared.fault.FaultKind.TheVariants as kind

-- the word for why a script is refused
abbrev pub word_of : FaultKind → List ℕ
word_of kind.Header = codes "header"
word_of kind.Syntax = codes "syntax"
word_of kind.IntRange = codes "int_range"
word_of kind.TermTooLarge = codes "term_too_large"
word_of kind.DuplicateName = codes "duplicate_name"
word_of kind.TooManyProcesses = codes "too_many_processes"
word_of kind.DuplicateLabel = codes "duplicate_label"
word_of kind.TooManyTurns = codes "too_many_turns"
word_of kind.MarkerNotInClause = codes "marker_not_in_clause"
word_of kind.UnknownProcess = codes "unknown_process"
word_of kind.UnknownLabel = codes "unknown_label"
word_of kind.TooLong = codes "too_long"

-- the line that is refused, and why
abbrev pub fault_text : ℕ → FaultKind → List ℕ
fault_text line kind = codes "line " ++ decimal line ++ codes ": " ++ word_of kind
