-- What a command writes of what the source spells; or why there is nothing to write (this project's own).
use Rattle.std.specs.Prelude.{ℕ, List, Result, Ok, Err, Vec}
use Rattle.std.specs.Global.{Global}
use Rattle.sig_edge.specs.Streams.{Reading}
use Rattle.sig_tool.specs.declared.command.Command.{Command}
use Rattle.sig_tool.specs.declared.command.Command.TheVariants.{Expand}
use Rattle.sig_tool.specs.declared.status.ToolStatus.{ToolStatus}
use Rattle.sig_tool.specs.Expanding.{IsExpandedText, IsUnexpanded}
use Rattle.sig_tool.specs.Inputs.{IsRecordText, IsUnfitRecord}

-- this is what the command writes: of a text of calls, or of a script and the record behind it
abbrev pub IsTextFor : Command → Reading → List ℕ → Type 0
IsTextFor Expand r text = IsExpandedText r text
IsTextFor command r text = IsRecordText command r text

-- why there is nothing that it could write
abbrev pub IsUnfitFor : Command → Reading → ToolStatus → Type 0
IsUnfitFor Expand r status = IsUnexpanded r status
IsUnfitFor command r status = IsUnfitRecord command r status

abbrev pub IsTextRead : Command → Reading → Result (Vec ℕ Global) ToolStatus → Type 0
IsTextRead command r (Ok text) = IsTextFor command r text.items
IsTextRead command r (Err status) = IsUnfitFor command r status
