-- What each answer of the tool says of the words, of what was read, and of what was written; and which is due.
use Rattle.std.specs.Prelude.{◌≡◌, ℕ, ◌<◌, List, length, take, Option, Some, None}
use Rattle.sig_base.specs.Flow.{one_more, Rose, Adds}
use Rattle.sig_edge.specs.Streams.{IsUnread, IsUnwritten, Reading, Writing}
use Rattle.sig_program.specs.Scripts.{Program}
use Rattle.sig_record.specs.declared.report.Report.{Report}
use Rattle.sig_record.specs.RunRecord.{IsOfSettledRun}
use Rattle.sig_tool.specs.declared.command.Command.{Command}
use Rattle.sig_tool.specs.declared.command.Command.TheVariants.{Expand}
use Rattle.sig_tool.specs.declared.given.TheConstants.{MOST_INPUT}
use Rattle.sig_tool.specs.declared.status.ToolStatus.{ToolStatus}
use Rattle.sig_tool.specs.declared.status.ToolStatus.TheVariants.{Done, Usage, WriteFault, TooLong, NoEvent}
use Rattle.sig_tool.specs.Commands.{command_of, HasEvents, LacksEvent}
use Rattle.sig_tool.specs.Expanding.{IsCallsDue}
use Rattle.sig_tool.specs.Inputs.{IsFault, IsPair}
use Rattle.sig_tool.specs.Texts.{IsTextFor, IsUnfitFor}

-- the whole text of the command was written, and no write failed
abbrev pub IsPrinted : Command → Reading → Writing → Type 0
IsPrinted command r w = (w.after ≡ w.before) × ((text : List ℕ) × IsTextFor command r text × Adds w.held w.new text)

-- one write failed, and only the beginning of that text was written
abbrev pub IsCutOff : Command → Reading → Writing → Type 0
IsCutOff command r w =
    (w.after ≡ one_more w.before) × ((text : List ℕ) × (n : ℕ) × IsTextFor command r text × (n < length text) × Adds w.held w.new (take n text))

-- how the command ended: its text was written, or a part of it; or nothing, for this reason
abbrev pub IsRanSo : Command → Reading → Writing → ToolStatus → Type 0
IsRanSo command r w Done = IsPrinted command r w
IsRanSo command r w WriteFault = IsCutOff command r w
IsRanSo command r w status = IsUnfitFor command r status × IsUnwritten w

-- what each status says where the words are this command, or none
abbrev pub IsAnswerTo : Option Command → Reading → Writing → ToolStatus → Type 0
IsAnswerTo None r w Usage = IsUnread r × IsUnwritten w
IsAnswerTo None r w _ = ⊥
IsAnswerTo (Some command) r w status = IsRanSo command r w status

-- what each status says of the words, of what was read, and of what was written
abbrev pub IsAnswer : List (List ℕ) → Reading → Writing → ToolStatus → Type 0
IsAnswer words r w status = IsAnswerTo (command_of words) r w status

-- what a command of records has to answer for these bytes, where nothing fails and there is memory; there is one such answer
abbrev pub IsRecordDue : Command → List ℕ → ToolStatus → Type 0
IsRecordDue command bytes Done =
    (script : Program) × (reports : List Report) × IsPair bytes script reports × IsOfSettledRun script reports × HasEvents command reports
IsRecordDue command bytes NoEvent =
    (script : Program) × (reports : List Report) × IsPair bytes script reports × IsOfSettledRun script reports × LacksEvent command reports
IsRecordDue command bytes TooLong = MOST_INPUT < length bytes
IsRecordDue command bytes status = IsFault bytes status

-- the same of each command
abbrev pub IsDue : Command → List ℕ → ToolStatus → Type 0
IsDue Expand bytes status = IsCallsDue bytes status
IsDue command bytes status = IsRecordDue command bytes status

-- the words are this command, the source has these bytes, no read failed, and no write to `out` where there is something to be written
pub record IsWellGiven (command : Command) (words : List (List ℕ)) (bytes : List ℕ) (due : ToolStatus) (r : Reading) (w : Writing) : Type 0 where
  pub named : command_of words ≡ Some command
  pub left : r.left ≡ Some bytes
  pub source : Rose r.before r.after → ⊥
  pub out : due ≡ Done → Rose w.before w.after → ⊥
