-- The words of the refusals of calls, and the texts of errors (both are this project's own).
use Rattle.std.specs.Prelude.{ℕ, List, ◌++◌, codes, decimal}
use Rattle.sig_tokens.specs.FaultWords.{fault_text}
use Rattle.sig_call.specs.declared.fault.CallFault.{CallFault}
use Rattle.sig_call.specs.declared.fault.CallFault.TheVariants.{Form, Reserved}
use Rattle.sig_call.specs.declared.fault.CallError.{CallError}
use Rattle.sig_call.specs.declared.fault.CallError.TheVariants as error

-- the word for why a line is refused
abbrev pub word_of : CallFault → List ℕ
word_of Form = codes "call_form"
word_of Reserved = codes "reserved_variable"

-- the line that is refused, and why
abbrev pub call_text : ℕ → CallFault → List ℕ
call_text line kind = codes "line " ++ decimal line ++ codes ": " ++ word_of kind

abbrev pub error_text : CallError → List ℕ
error_text error.TooLong = codes "too long"
error_text (error.Call line kind) = call_text line kind
error_text (error.Script line kind) = fault_text line kind
error_text error.Memory = codes "out of memory"
