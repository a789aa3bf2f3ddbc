-- What the tool tells on `err`: one line, which begins with the program's name, or nothing (the texts are this project's own).
use Rattle.std.specs.Prelude.{ℕ, List, [], ◌++◌, codes}
use Rattle.sig_call.specs.declared.fault.CallFault.{CallFault}
use Rattle.sig_call.specs.CallTexts.{call_text}
use Rattle.sig_edge.specs.Told.{memory_text, number_text, read_fault_text, refusal_text, write_fault_text}
use Rattle.sig_tool.specs.declared.status.ToolStatus.{ToolStatus}
use Rattle.sig_tool.specs.declared.status.ToolStatus.TheVariants.{Done, BadScript, Usage, ReadFault, WriteFault, Memory, No, BadRecord, TooLong, NoEvent, BadCall}

abbrev pub program_name : List ℕ
program_name = codes "sigtool"

-- the line of a text of calls that is refused, and why
abbrev pub call_refusal_text : ℕ → CallFault → List ℕ
call_refusal_text line kind = program_name ++ codes ": " ++ call_text line kind ++ codes "\n"

abbrev pub told_text : ToolStatus → List ℕ
told_text Done = []
told_text (BadScript line kind) = refusal_text program_name line kind
told_text Usage = codes "usage: sigtool check|replay|links|before P I Q J|expand\n"
told_text ReadFault = read_fault_text program_name
told_text WriteFault = write_fault_text program_name
told_text Memory = memory_text program_name
told_text (No event) = number_text program_name (codes "no at event") event []
told_text (BadRecord line) = number_text program_name (codes "record line") line []
told_text TooLong = program_name ++ codes ": too long\n"
told_text NoEvent = program_name ++ codes ": no such event\n"
told_text (BadCall line kind) = call_refusal_text line kind
