-- What is read of a script with a record behind it, as the tool reads it, and what a command of records writes of it; or why it writes nothing.
use Rattle.std.specs.Prelude.{ℕ, List, Result, Ok, Err, Vec}
use Rattle.std.specs.Global.{Global}
use Rattle.sig_edge.specs.Streams.{Reading}
use Rattle.sig_program.specs.Scripts.{Program}
use Rattle.sig_record.specs.declared.report.Report.{Report}
use Rattle.sig_tool.specs.declared.given.Given.{Given}
use Rattle.sig_tool.specs.declared.status.ToolStatus.TheVariants as tool
use Rattle.sig_tool.specs.Inputs.{IsSettledPair, IsUnfit}
use Rattle.sig_view.specs.declared.command.Command.{Command}
use Rattle.sig_view.specs.declared.status.ViewStatus.{ViewStatus}
use Rattle.sig_view.specs.declared.status.ViewStatus.TheVariants.{BadScript, ReadFault, Memory, No, BadRecord, TooLong, NoEvent, TooManyEvents}
use Rattle.sig_view.specs.Commands.{IsRefusal, IsTextOf}

-- why the source gave no script with the record of a settled run of it behind it: what the tool says of it
abbrev pub IsNoInput : Reading → ViewStatus → Type 0
IsNoInput r (BadScript line kind) = IsUnfit r (tool.BadScript line kind)
IsNoInput r ReadFault = IsUnfit r tool.ReadFault
IsNoInput r Memory = IsUnfit r tool.Memory
IsNoInput r (No event) = IsUnfit r (tool.No event)
IsNoInput r (BadRecord line) = IsUnfit r (tool.BadRecord line)
IsNoInput r TooLong = IsUnfit r tool.TooLong
IsNoInput r _ = ⊥

abbrev pub IsSettledRead : Reading → Result Given ViewStatus → Type 0
IsSettledRead r (Ok given) = IsSettledPair r given.script given.told
IsSettledRead r (Err status) = IsNoInput r status

-- this is what the command writes of what the source spells
abbrev pub IsRecordText : Command → Reading → List ℕ → Type 0
IsRecordText command r text = (script : Program) × (reports : List Report) × IsSettledPair r script reports × IsTextOf command script reports text

-- the source spells the record of a settled run, of which the command refuses to write
abbrev pub IsRecordRefused : Command → Reading → ViewStatus → Type 0
IsRecordRefused command r status = (script : Program) × (reports : List Report) × IsSettledPair r script reports × IsRefusal command reports status

-- why there is nothing that the command could write
abbrev pub IsUnfitRecord : Command → Reading → ViewStatus → Type 0
IsUnfitRecord command r NoEvent = IsRecordRefused command r NoEvent
IsUnfitRecord command r TooManyEvents = IsRecordRefused command r TooManyEvents
IsUnfitRecord command r status = IsNoInput r status

abbrev pub IsRecordRead : Command → Reading → Result (Vec ℕ Global) ViewStatus → Type 0
IsRecordRead command r (Ok text) = IsRecordText command r text.items
IsRecordRead command r (Err status) = IsUnfitRecord command r status
