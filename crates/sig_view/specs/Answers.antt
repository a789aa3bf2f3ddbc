-- What each answer of the viewer says of the words, of what was read, and of what was written; and which is due.
use Rattle.std.specs.Prelude.{◌≡◌, ℕ, ◌<◌, List, length, take, Option, Some, None}
use Rattle.sig_base.specs.Flow.{one_more, Rose, Adds}
use Rattle.sig_edge.specs.Streams.{IsUnread, IsUnwritten, Reading, Writing}
use Rattle.sig_program.specs.Scripts.{Program}
use Rattle.sig_record.specs.declared.report.Report.{Report}
use Rattle.sig_record.specs.RunRecord.{IsOfSettledRun}
use Rattle.sig_tool.specs.declared.given.TheConstants.{MOST_INPUT}
use Rattle.sig_tool.specs.declared.status.ToolStatus.TheVariants as tool
use Rattle.sig_tool.specs.Inputs.{IsFault, IsPair}
use Rattle.sig_view.specs.declared.command.Command.{Command}
use Rattle.sig_view.specs.declared.command.Command.TheVariants.{Outcomes, OutcomeRecord}
use Rattle.sig_view.specs.declared.status.ViewStatus.{ViewStatus}
use Rattle.sig_view.specs.declared.status.ViewStatus.TheVariants.{Done, BadScript, Usage, WriteFault, No, BadRecord, TooLong, Unfinished}
use Rattle.sig_view.specs.Commands.{AskFor, IsAsked, IsFit, IsRefusal}
use Rattle.sig_view.specs.Outcomes.{IsNoScript, IsSpelled}
use Rattle.sig_view.specs.Texts.{IsTextFor, IsUnfitFor}

-- the whole text of the command was written, with which the call ends so, and no write failed
abbrev pub IsPrinted : Command → Reading → Writing → ViewStatus → Type 0
IsPrinted command r w end = (w.after ≡ w.before) × ((text : List ℕ) × IsTextFor command r text end × Adds w.held w.new text)

-- one write failed, and only the beginning of that text was written
abbrev pub IsCutOff : Command → Reading → Writing → Type 0
IsCutOff command r w =
    (w.after ≡ one_more w.before)
    × ((text : List ℕ) × (end : ViewStatus) × (n : ℕ) × IsTextFor command r text end × (n < length text) × Adds w.held w.new (take n text))

-- how the command ended: its text was written, or a part of it; or nothing, for this reason
abbrev pub IsRanSo : Command → Reading → Writing → ViewStatus → Type 0
IsRanSo command r w Done = IsPrinted command r w Done
IsRanSo command r w (Unfinished states) = IsPrinted command r w (Unfinished states)
IsRanSo command r w WriteFault = IsCutOff command r w
IsRanSo command r w status = IsUnfitFor command r status × IsUnwritten w

-- what each status says where the words ask for this command, or for none
abbrev pub IsAnswerTo : Option Command → Reading → Writing → ViewStatus → Type 0
IsAnswerTo None r w Usage = IsUnread r × IsUnwritten w
IsAnswerTo None r w _ = ⊥
IsAnswerTo (Some command) r w status = IsRanSo command r w status

-- what each status says of the words, of what was read, and of what was written
abbrev pub IsAnswer : List (List ℕ) → Reading → Writing → ViewStatus → Type 0
IsAnswer words r w status = (asked : Option Command) × IsAsked words asked × IsAnswerTo asked r w status

-- what the command has to answer of the record of a settled run
abbrev pub IsDecided : Command → List Report → ViewStatus → Type 0
IsDecided command reports Done = IsFit command reports
IsDecided command reports status = IsRefusal command reports status

-- what a command of records has to answer for these bytes
abbrev pub IsRecordDue : Command → List ℕ → ViewStatus → Type 0
IsRecordDue command bytes (BadScript line kind) = IsFault bytes (tool.BadScript line kind)
IsRecordDue command bytes (BadRecord line) = IsFault bytes (tool.BadRecord line)
IsRecordDue command bytes (No event) = IsFault bytes (tool.No event)
IsRecordDue command bytes TooLong = MOST_INPUT < length bytes
IsRecordDue command bytes status =
    (script : Program) × (reports : List Report) × IsPair bytes script reports × IsOfSettledRun script reports × IsDecided command reports status

-- the same where the outcomes of the script are to be listed
abbrev pub IsListDue : List ℕ → ViewStatus → Type 0
IsListDue bytes Done = (script : Program) × IsSpelled bytes script
IsListDue bytes status = IsNoScript bytes status

-- What the command has to answer for these bytes, where nothing fails and there is memory: at most one status. Where `--record` stands and
-- they spell a script none is due, since whether a search comes to the outcome hangs on how far it comes; of the number 0 `IsAnswer` says it.
abbrev pub IsDue : Command → List ℕ → ViewStatus → Type 0
IsDue (Outcomes states) bytes status = IsListDue bytes status
IsDue (OutcomeRecord states number) bytes status = IsNoScript bytes status
IsDue command bytes status = IsRecordDue command bytes status

-- the status, which is Done also where outcomes were listed and there may be more
abbrev pub as_done : ViewStatus → ViewStatus
as_done (Unfinished states) = Done
as_done status = status

-- the words ask for this command, the source has these bytes, no read failed, and no write to `out` where there is something to be written
pub record IsWellGiven (command : Command) (words : List (List ℕ)) (bytes : List ℕ) (due : ViewStatus) (r : Reading) (w : Writing) : Type 0 where
  pub named : AskFor words command
  pub left : r.left ≡ Some bytes
  pub source : Rose r.before r.after → ⊥
  pub out : due ≡ Done → Rose w.before w.after → ⊥
