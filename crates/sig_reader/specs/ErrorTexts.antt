-- The text of an error of the reader (this project's own).
use Rattle.std.specs.Prelude.{ℕ, List, codes}
use Rattle.sig_reader.specs.declared.reader.ScriptError.{ScriptError}
use Rattle.sig_reader.specs.declared.reader.ScriptError.TheVariants as error
use Rattle.sig_tokens.specs.FaultWords.{fault_text}

abbrev pub error_text : ScriptError → List ℕ
error_text (error.Fault line kind) = fault_text line kind
error_text error.Memory = codes "out of memory"
