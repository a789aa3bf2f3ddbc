-- What is read: all bytes of the source; and of a script and a record behind it, which is that of a settled run of the script, or why there
-- is none.
use Rattle.std.specs.Prelude.{◌≡◌, ◌≢◌, ℕ, ◌+◌, ◌≤◌, List, length, IfSome, Result, Ok, Err, Vec, ⊤}
use Rattle.std.specs.Global.{Global}
use Rattle.sig_base.specs.Flow.{one_more, Took}
use Rattle.sig_edge.specs.Streams.{IsFine, IsReadToEnd, IsRefused, Reading}
use Rattle.sig_program.specs.Scripts.{Program}
use Rattle.sig_reader.specs.Grammar.{script_of}
use Rattle.sig_record.specs.declared.report.Report.{Report}
use Rattle.sig_record.specs.FaultLine.{IsFaultLine}
use Rattle.sig_record.specs.ReadableRecord.{IsReadableRecord}
use Rattle.sig_record.specs.RecordText.{record_text}
use Rattle.sig_record.specs.RunRecord.{IsOfSettledRun}
use Rattle.sig_check.specs.declared.verdict.Verdict.TheVariants as verdict
use Rattle.sig_check.specs.Verdicts.{IsVerdict}
use Rattle.sig_tool.specs.declared.command.Command.{Command}
use Rattle.sig_tool.specs.declared.given.Given.{Given}
use Rattle.sig_tool.specs.declared.given.TheConstants.{MOST_INPUT}
use Rattle.sig_tool.specs.declared.status.ToolStatus.{ToolStatus}
use Rattle.sig_tool.specs.declared.status.ToolStatus.TheVariants.{BadScript, ReadFault, Memory, No, BadRecord, TooLong, NoEvent}
use Rattle.sig_tool.specs.Commands.{IsTextOf, LacksEvent}
use Rattle.sig_tool.specs.Split.{script_part, record_part}

-- ---- of the bytes

-- the bytes are no more than an input may have
abbrev pub IsShort : List ℕ → Type 0
IsShort bytes = length bytes ≤ MOST_INPUT

-- the bytes spell this script and, behind it, this record
pub record IsPair (bytes : List ℕ) (script : Program) (reports : List Report) : Type 0 where
  pub short : IsShort bytes
  pub spelled : script_of (script_part bytes) ≡ Ok script
  pub readable : IsReadableRecord reports
  pub printed : record_part bytes ≡ record_text reports

-- the script's part spells a script
abbrev pub HasScript : List ℕ → Type 0
HasScript bytes = (script : Program) × (script_of (script_part bytes) ≡ Ok script)

-- the bytes are the text of no record that can be read, and this line is the first that can't stand there
pub record IsNoRecord (bytes : List ℕ) (line : ℕ) : Type 0 where
  pub none : (reports : List Report) → IsReadableRecord reports → bytes ≢ record_text reports
  pub first : IsFaultLine bytes line

-- What is wrong with bytes that are read to their end: their script's part spells no script; it does, and their record's part is no
-- record's text; or this is one, and not that of a settled run of the script.
abbrev pub IsFault : List ℕ → ToolStatus → Type 0
IsFault bytes (BadScript line kind) = IsShort bytes × IsRefused line kind (script_part bytes)
IsFault bytes (BadRecord line) = IsShort bytes × HasScript bytes × IsNoRecord (record_part bytes) line
IsFault bytes (No event) =
    (script : Program) × (reports : List Report) × IsPair bytes script reports × IsVerdict script reports (verdict.No event)
IsFault bytes _ = ⊥

-- ---- of the source

-- the source had these bytes, where it tells them, and was read to its end; no read failed
pub record IsWhole (r : Reading) (bytes : List ℕ) : Type 0 where
  pub all : IfSome r.left (λ left. bytes ≡ left)
  pub ended : IsReadToEnd r
  pub fine : IsFine r

-- one byte more than so many was taken
abbrev pub IsOver : ℕ → Reading → Type 0
IsOver most r = (taken : List ℕ) × Took r.left r.rest taken × (length taken ≡ most + 1)

-- why the source gave no script with the record of a settled run of it behind it
abbrev pub IsUnfit : Reading → ToolStatus → Type 0
IsUnfit r ReadFault = r.after ≡ one_more r.before
IsUnfit r Memory = IsFine r
IsUnfit r TooLong = IsOver MOST_INPUT r × IsFine r
IsUnfit r status = (bytes : List ℕ) × IsWhole r bytes × IsFault bytes status

-- ---- the steps

-- reading the input to its end, of at most so many bytes
abbrev pub IsInput : ℕ → Reading → Result (Vec ℕ Global) ToolStatus → Type 0
IsInput most r (Ok bytes) = IsWhole r bytes.items × (length bytes.items ≤ most)
IsInput most r (Err ReadFault) = r.after ≡ one_more r.before
IsInput most r (Err Memory) = IsFine r
IsInput most r (Err TooLong) = IsOver most r × IsFine r
IsInput most r (Err _) = ⊥

-- reading the script and the record that the bytes spell
abbrev pub ArePartsOf : List ℕ → Result Given ToolStatus → Type 0
ArePartsOf bytes (Ok given) = IsPair bytes given.script given.told
ArePartsOf bytes (Err Memory) = ⊤
ArePartsOf bytes (Err status) = IsFault bytes status

-- the verdict on what was given
abbrev pub IsApproved : Given → Result Given ToolStatus → Type 0
IsApproved given (Ok same) = (same ≡ given) × IsOfSettledRun given.script given.told
IsApproved given (Err (No event)) = IsVerdict given.script given.told (verdict.No event)
IsApproved given (Err Memory) = ⊤
IsApproved given (Err _) = ⊥

-- the source spells this script and, behind it, this record, which is that of a settled run of the script
pub record IsSettledPair (r : Reading) (script : Program) (reports : List Report) : Type 0 where
  pub bytes : List ℕ
  pub whole : IsWhole r bytes
  pub pair : IsPair bytes script reports
  pub settled : IsOfSettledRun script reports

-- all three
abbrev pub IsChecked : Reading → Result Given ToolStatus → Type 0
IsChecked r (Ok given) = IsSettledPair r given.script given.told
IsChecked r (Err status) = IsUnfit r status

-- this is what the command writes of a script and its record that the source spells
abbrev pub IsRecordText : Command → Reading → List ℕ → Type 0
IsRecordText command r text = (script : Program) × (reports : List Report) × IsSettledPair r script reports × IsTextOf command script reports text

-- the same, where the record lacks an event of which the command asks
abbrev pub HasNoSuchEvent : Command → Reading → Type 0
HasNoSuchEvent command r = (script : Program) × (reports : List Report) × IsSettledPair r script reports × LacksEvent command reports

-- why there is nothing that the command could write of such
abbrev pub IsUnfitRecord : Command → Reading → ToolStatus → Type 0
IsUnfitRecord command r NoEvent = HasNoSuchEvent command r
IsUnfitRecord command r status = IsUnfit r status
