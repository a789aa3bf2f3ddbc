-- The numbers of the statuses, and the statuses that say what one of the tool says, or an error of another crate (this project's own).
use Rattle.std.specs.Prelude.{ℕ}
use Rattle.sig_reader.specs.declared.reader.ScriptError.{ScriptError}
use Rattle.sig_reader.specs.declared.reader.ScriptError.TheVariants as unread
use Rattle.sig_tool.specs.declared.status.ToolStatus.{ToolStatus}
use Rattle.sig_tool.specs.declared.status.ToolStatus.TheVariants as tool
use Rattle.sig_view.specs.declared.status.ViewStatus.{ViewStatus}
use Rattle.sig_view.specs.declared.status.ViewStatus.TheVariants.{Done, BadScript, Usage, ReadFault, WriteFault, Memory, No, BadRecord, TooLong, NoEvent, TooManyEvents, NoOutcome, NotFound, Unfinished}

abbrev pub number_of : ViewStatus → ℕ
number_of Done = 0
number_of (BadScript line kind) = 1
number_of Usage = 2
number_of ReadFault = 3
number_of WriteFault = 4
number_of Memory = 5
number_of (No event) = 6
number_of (BadRecord line) = 7
number_of TooLong = 8
number_of NoEvent = 9
number_of TooManyEvents = 11
number_of NoOutcome = 12
number_of (NotFound states) = 13
number_of (Unfinished states) = 0

-- of a status that says why there is no input; reading answers no other
abbrev pub of_tool : ToolStatus → ViewStatus
of_tool (tool.BadScript line kind) = BadScript line kind
of_tool tool.ReadFault = ReadFault
of_tool tool.Memory = Memory
of_tool (tool.No event) = No event
of_tool (tool.BadRecord line) = BadRecord line
of_tool tool.TooLong = TooLong
of_tool _ = Usage

abbrev pub of_script : ScriptError → ViewStatus
of_script (unread.Fault line kind) = BadScript line kind
of_script unread.Memory = Memory
