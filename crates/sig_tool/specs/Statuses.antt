-- The numbers of the statuses, and the statuses of other crates' errors (this project's own).
use Rattle.std.specs.Prelude.{ℕ}
use Rattle.sig_reader.specs.declared.reader.ScriptError.{ScriptError}
use Rattle.sig_reader.specs.declared.reader.ScriptError.TheVariants as unread
use Rattle.sig_record.specs.declared.refusal.RecordError.{RecordError}
use Rattle.sig_record.specs.declared.refusal.RecordError.TheVariants as wrong
use Rattle.sig_call.specs.declared.fault.CallError.{CallError}
use Rattle.sig_call.specs.declared.fault.CallError.TheVariants as calls
use Rattle.sig_tool.specs.declared.status.ToolStatus.{ToolStatus}
use Rattle.sig_tool.specs.declared.status.ToolStatus.TheVariants.{Done, BadScript, Usage, ReadFault, WriteFault, Memory, No, BadRecord, TooLong, NoEvent, BadCall}

abbrev pub number_of : ToolStatus → ℕ
number_of Done = 0
number_of (BadScript line kind) = 1
number_of Usage = 2
number_of ReadFault = 3
number_of WriteFault = 4
number_of Memory = 5
number_of (No event) = 6
number_of (BadRecord line) = 7
number_of TooLong = 8
number_of NoEvent = 9
number_of (BadCall line kind) = 10

abbrev pub of_script_error : ScriptError → ToolStatus
of_script_error (unread.Fault line kind) = BadScript line kind
of_script_error unread.Memory = Memory

abbrev pub of_record_error : RecordError → ToolStatus
of_record_error (wrong.BadRecord line) = BadRecord line
of_record_error wrong.Memory = Memory

abbrev pub of_call_error : CallError → ToolStatus
of_call_error calls.TooLong = TooLong
of_call_error (calls.Call line kind) = BadCall line kind
of_call_error (calls.Script line kind) = BadScript line kind
of_call_error calls.Memory = Memory
