-- What the command `before` writes (this project's own).
use Rattle.std.specs.Prelude.{◌≡◌, ◌⊎◌, ℕ, List, Bool, true, codes, if◌then◌else◌, Result, Ok, Err, Vec, ⊤}
use Rattle.std.specs.Global.{Global}
use Rattle.sig_program.specs.Scripts.{Program}
use Rattle.sig_choices.specs.Origins.{origins_of}
use Rattle.sig_record.specs.declared.report.Report.{Report}
use Rattle.sig_record.specs.declared.merging.MergedAt.{MergedAt}
use Rattle.sig_record.specs.Merging.{IsMerged}
use Rattle.sig_record.specs.RunRecord.{events_listed}
use Rattle.sig_order.specs.declared.at.At.{At}
use Rattle.sig_order.specs.Happening.{is_there, HappenedBefore}
use Rattle.sig_order.specs.Told.{Told}
use Rattle.sig_tool.specs.declared.status.ToolStatus.{ToolStatus}
use Rattle.sig_tool.specs.declared.status.ToolStatus.TheVariants.{Memory, NoEvent}

-- the record has both events, or lacks one
pub record HasBoth (reports : List Report) (first second : At) : Type 0 where
  pub first_there : is_there reports first ≡ true
  pub second_there : is_there reports second ≡ true

abbrev pub LacksOne : List Report → At → At → Type 0
LacksOne reports first second = HasBoth reports first second → ⊥

-- `yes` where it is so, `no` where it isn't
abbrev pub said : Bool → List ℕ
said so = if so then codes "yes\n" else codes "no\n"

abbrev pub SaysWhether : Type 0 → List ℕ → Type 0
SaysWhether so text = ((text ≡ codes "yes\n") × so) ⊎ ((text ≡ codes "no\n") × (so → ⊥))

-- these are the record, and the origins of the signals of the run of which it is, in the order of its events
pub record IsOrderOf (script : Program) (reports : List Report) (told : Told) : Type 0 where
  pub same : told.reports ≡ reports
  pub order : List MergedAt
  pub merged : IsMerged reports order
  pub origins : told.origins ≡ origins_of script (events_listed reports order)

-- the record has both events, and the text says whether the first happened before the second
pub record IsBeforeText (script : Program) (reports : List Report) (first second : At) (text : List ℕ) : Type 0 where
  pub both : HasBoth reports first second
  pub order : List MergedAt
  pub merged : IsMerged reports order
  pub says : SaysWhether (HappenedBefore reports (origins_of script (events_listed reports order)) first second) text

-- the same of an order that is at hand; without one of the events that is told
abbrev pub IsAnswered : Told → At → At → Result (Vec ℕ Global) ToolStatus → Type 0
IsAnswered told first second (Ok text) = HasBoth told.reports first second × SaysWhether (HappenedBefore told.reports told.origins first second) text.items
IsAnswered told first second (Err NoEvent) = LacksOne told.reports first second
IsAnswered told first second (Err Memory) = ⊤
IsAnswered told first second (Err _) = ⊥
