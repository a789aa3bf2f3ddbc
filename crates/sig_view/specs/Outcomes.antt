-- What the commands of a script alone read, and what they write of the outcomes that a search finds (this project's own).
use Rattle.std.specs.Prelude.{◌≡◌, ◌≢◌, ◌⊎◌, ◌↔◌, ℕ, zero, suc, ◌<◌, ◌≤◌, Bool, true, false, IsTrue, List, map, length, All, AllPairs, Option, Some, None, slice_get, Result, Ok, Err, Vec, ⊤}
use Rattle.std.specs.Global.{Global}
use Rattle.sig_base.specs.Flow.{one_more}
use Rattle.sig_edge.specs.Streams.{IsFine, IsRefused, Reading}
use Rattle.sig_program.specs.Scripts.{Program}
use Rattle.sig_program.specs.ScriptNames.{AreNames}
use Rattle.sig_reader.specs.Grammar.{script_of}
use Rattle.sig_outcomes.specs.Outcomes.{Rest}
use Rattle.sig_outcomelaw.specs.Told.{outcome_told}
use Rattle.sig_outcomelaw.specs.SettledOutcomes.{IsOutcome}
use Rattle.sig_record.specs.declared.report.Report.{Report}
use Rattle.sig_record.specs.ReadableRecord.{CanBeReread, IsReadableRecord}
use Rattle.sig_record.specs.RecordText.{record_text}
use Rattle.sig_record.specs.SizedRecord.{IsSizedRecord}
use Rattle.sig_record.specs.RunRecord.{IsOfSettledRun}
use Rattle.sig_record.specs.StoredEnds.{AreStoredEnds}
use Rattle.sig_explore.specs.Endings.{AreAllOutcomes}
use Rattle.sig_explore.specs.Seen.{HaveSeen}
use Rattle.sig_tool.specs.declared.given.TheConstants.{MOST_INPUT}
use Rattle.sig_tool.specs.Inputs.{IsOver, IsShort, IsWhole}
use Rattle.sig_view.specs.declared.status.ViewStatus.{ViewStatus}
use Rattle.sig_view.specs.declared.status.ViewStatus.TheVariants.{Done, BadScript, ReadFault, Memory, TooLong, NoOutcome, NotFound, Unfinished}
use Rattle.sig_view.specs.declared.text.Text.{Text}
use Rattle.sig_view.specs.OutcomeText.{AreInTextOrder, names_of, outcomes_text}

-- ---- outcomes of a script

-- the record of a settled run of the script tells this outcome: one whose ends can lie in memory, and which is no larger than what is read
pub record IsTold (script : Program) (outcome : List Rest) : Type 0 where
  pub reports : List Report
  pub settled : IsOfSettledRun script reports
  pub stored : AreStoredEnds reports
  pub sized : IsSizedRecord reports
  pub told : outcome ≡ outcome_told reports

-- What is listed where a search may visit so many states: outcomes of the script, by ascending text. So many states were met, and each of
-- them without a choice has its outcome here; no other outcome is here. As many of them as may be visited, or all, were: what the choices
-- lead to was met that were made first at each, and each state that was met is the opening or was led to by one of these. That these are all is said exactly where
-- no more were met than may be visited, and then they are.
pub record AreListed (script : Program) (most : ℕ) (outcomes : List (List Rest)) (states : ℕ) (all : Bool) : Type 0 where
  pub each : All (IsOutcome script) outcomes
  pub told : All (IsTold script) outcomes
  pub ascending : AreInTextOrder (names_of script) outcomes
  pub met : IsTrue all ↔ (states ≤ most)
  pub seen : HaveSeen script most states outcomes
  pub whole : all ≡ true → AreAllOutcomes script outcomes

-- the one of this number, counted from 1
abbrev pub numbered : {X : Type 0} → ℕ → List X → Option X
numbered zero items = None
numbered (suc place) items = slice_get items place

-- Each of these is the record of a settled run, of names and terms that can be read, and tells an outcome of the script, no two the same. So
-- many states were met; that these are all is said exactly where no more were met than may be visited, and then the records tell all outcomes.
pub record AreFound (script : Program) (most : ℕ) (endings : List (List Report)) (states : ℕ) (all : Bool) : Type 0 where
  pub each : All (IsOfSettledRun script) endings
  pub outcomes : All (λ reports. IsOutcome script (outcome_told reports)) endings
  pub sized : AreNames script → All IsSizedRecord endings
  pub distinct : AllPairs (λ a b. outcome_told a ≢ outcome_told b) endings
  pub met : IsTrue all ↔ (states ≤ most)
  pub whole : all ≡ true → AreAllOutcomes script (map outcome_told endings)

-- ---- what is written

-- how a call ends that has listed what was found: done, or with the number of states that were met
abbrev pub end_with : Bool → ℕ → ViewStatus
end_with true states = Done
end_with false states = Unfinished states

-- the text is that of such a list, and the call ends as one that has written it
pub record IsOutcomesText (script : Program) (most : ℕ) (text : List ℕ) (end : ViewStatus) : Type 0 where
  pub outcomes : List (List Rest)
  pub states : ℕ
  pub all : Bool
  pub listed : AreListed script most outcomes states all
  pub lines : text ≡ outcomes_text (names_of script) outcomes all
  pub ends : end ≡ end_with all states

-- The text is that of the record of a settled run, which can be read, that ends in the outcome of this number of such a list; and the call
-- ends as one that has written the list.
pub record IsOutcomeRecord (script : Program) (most : ℕ) (number : ℕ) (text : List ℕ) (end : ViewStatus) : Type 0 where
  pub outcomes : List (List Rest)
  pub states : ℕ
  pub all : Bool
  pub listed : AreListed script most outcomes states all
  pub reports : List Report
  pub settled : IsOfSettledRun script reports
  pub readable : IsReadableRecord reports
  pub there : numbered number outcomes ≡ Some (outcome_told reports)
  pub printed : text ≡ record_text reports
  pub ends : end ≡ end_with all states

-- such a list of all outcomes of the script doesn't come to this number
pub record HasFewer (script : Program) (most : ℕ) (number : ℕ) : Type 0 where
  pub outcomes : List (List Rest)
  pub states : ℕ
  pub listed : AreListed script most outcomes states true
  pub fewer : length outcomes < number

-- all outcomes of the script are fewer than this number; or it is 0, which numbers none
abbrev pub HasNoOutcome : Program → ℕ → ℕ → Type 0
HasNoOutcome script most number = (number ≡ 0) ⊎ HasFewer script most number

-- more states were met than may be visited, so a search of as many was cut off, and such a list of what it met doesn't come to this number
pub record IsNotFound (script : Program) (most : ℕ) (number : ℕ) (states : ℕ) : Type 0 where
  pub over : most < states
  pub outcomes : List (List Rest)
  pub listed : AreListed script most outcomes states false
  pub fewer : length outcomes < number

-- ---- what is read

-- the bytes spell this script
pub record IsSpelled (bytes : List ℕ) (script : Program) : Type 0 where
  pub short : IsShort bytes
  pub spelled : script_of bytes ≡ Ok script

-- the source spells this script, and nothing behind it
abbrev pub IsScript : Reading → Program → Type 0
IsScript r script = (bytes : List ℕ) × IsWhole r bytes × IsSpelled bytes script

-- what is wrong with bytes that spell no script
abbrev pub IsNoScript : List ℕ → ViewStatus → Type 0
IsNoScript bytes (BadScript line kind) = IsShort bytes × IsRefused line kind bytes
IsNoScript bytes TooLong = MOST_INPUT < length bytes
IsNoScript bytes _ = ⊥

-- why the source gave no script
abbrev pub LacksScript : Reading → ViewStatus → Type 0
LacksScript r (BadScript line kind) = (bytes : List ℕ) × IsWhole r bytes × IsNoScript bytes (BadScript line kind)
LacksScript r ReadFault = r.after ≡ one_more r.before
LacksScript r Memory = IsFine r
LacksScript r TooLong = IsOver MOST_INPUT r × IsFine r
LacksScript r _ = ⊥

-- the bytes of the source
abbrev pub AreBytes : Reading → Result (Vec ℕ Global) ViewStatus → Type 0
AreBytes r (Ok bytes) = IsWhole r bytes.items × IsShort bytes.items
AreBytes r (Err ReadFault) = r.after ≡ one_more r.before
AreBytes r (Err Memory) = IsFine r
AreBytes r (Err TooLong) = IsOver MOST_INPUT r × IsFine r
AreBytes r (Err _) = ⊥

-- the script that bytes spell
abbrev pub IsScriptOf : List ℕ → Result Program ViewStatus → Type 0
IsScriptOf bytes (Ok script) = script_of bytes ≡ Ok script
IsScriptOf bytes (Err (BadScript line kind)) = IsRefused line kind bytes
IsScriptOf bytes (Err Memory) = ⊤
IsScriptOf bytes (Err _) = ⊥

abbrev pub IsScriptRead : Reading → Result Program ViewStatus → Type 0
IsScriptRead r (Ok script) = IsScript r script
IsScriptRead r (Err status) = LacksScript r status

-- ---- of the source

-- this text lists outcomes of the script that the source spells, by a search that visits at most so many states
abbrev pub IsOutcomesFor : ℕ → Reading → List ℕ → ViewStatus → Type 0
IsOutcomesFor most r text end = (script : Program) × IsScript r script × IsOutcomesText script most text end

-- this text is that of the record of a run which ends in the outcome of this number, of those that such a search lists
abbrev pub IsOutcomeRecordFor : ℕ → ℕ → Reading → List ℕ → ViewStatus → Type 0
IsOutcomeRecordFor most number r text end = (script : Program) × IsScript r script × IsOutcomeRecord script most number text end

-- why there is none: the script has no such outcome, or a search that visits at most so many states didn't find it
abbrev pub IsNoOutcomeFor : ℕ → ℕ → Reading → ViewStatus → Type 0
IsNoOutcomeFor most number r NoOutcome = (script : Program) × IsScript r script × HasNoOutcome script most number
IsNoOutcomeFor most number r (NotFound states) = (script : Program) × IsScript r script × IsNotFound script most number states
IsNoOutcomeFor most number r status = LacksScript r status

-- ---- the steps

-- the text of what was found
abbrev pub IsListText : Program → ℕ → Result Text ViewStatus → Type 0
IsListText script most (Ok text) = IsOutcomesText script most text.bytes.items text.end
IsListText script most (Err Memory) = ⊤
IsListText script most (Err _) = ⊥

-- the text of the record of this number among these; or none has it, and these are all, or so many states were met by a search that was cut off
abbrev pub IsFoundText : List (List Report) → ℕ → Bool → ℕ → Result Text ViewStatus → Type 0
IsFoundText endings states all number (Ok text) =
    (reports : List Report) × (numbered number endings ≡ Some reports) × (text.bytes.items ≡ record_text reports) × CanBeReread reports
    × (text.end ≡ end_with all states)
IsFoundText endings states all number (Err NoOutcome) = (numbered number endings ≡ None) × (all ≡ true)
IsFoundText endings states all number (Err (NotFound met)) = (numbered number endings ≡ None) × (all ≡ false) × (met ≡ states)
IsFoundText endings states all number (Err Memory) = ⊤
IsFoundText endings states all number (Err _) = ⊥

-- the same of the script
abbrev pub IsNumberedText : Program → ℕ → ℕ → Result Text ViewStatus → Type 0
IsNumberedText script most number (Ok text) = IsOutcomeRecord script most number text.bytes.items text.end
IsNumberedText script most number (Err NoOutcome) = HasNoOutcome script most number
IsNumberedText script most number (Err (NotFound states)) = IsNotFound script most number states
IsNumberedText script most number (Err Memory) = ⊤
IsNumberedText script most number (Err _) = ⊥
