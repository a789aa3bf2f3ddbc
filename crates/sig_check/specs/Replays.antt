-- Replays: the choices of a record's events, made once more (this project's own).
use Rattle.std.specs.Prelude.{◌≡◌, ℕ, ◌+◌, Some, None, List, [], ◌∷◌, ◌++◌, length, slice_get}
use Rattle.sig_kinds.specs.declared.signal.Signal.{Signal}
use Rattle.sig_program.specs.Scripts.{Program}
use Rattle.sig_runs.specs.Machine.{Machine, At, apply, choice}
use Rattle.sig_runs.specs.Crew.{opening_machine}
use Rattle.sig_runs.specs.Order.{events_by}
use Rattle.sig_model.specs.declared.event.Event.{Event}
use Rattle.sig_model.specs.declared.origin.Origin.{Origin}
use Rattle.sig_model.specs.ProcessState.{ProcessState}
use Rattle.sig_model.specs.Machine.{acted_at, rules_of, opening_of}
use Rattle.sig_model.specs.Running.{Running}
use Rattle.sig_model.specs.OneWorker.{IsClear}
use Rattle.sig_model.specs.SettledRun.{events_of}
use Rattle.sig_model.specs.CrewLaw.{IsLawfulCrew, machine_of}
use Rattle.sig_choices.specs.Origins.{origins_of}
use Rattle.sig_process.specs.Standing.{runnings_of}
use Rattle.sig_record.specs.declared.report.Report.{Report}
use Rattle.sig_check.specs.declared.replaying.Replaying.{Replaying}
use Rattle.sig_check.specs.declared.replaying.Replaying.TheVariants.{Stopped, Replayed}
use Rattle.sig_record.specs.declared.merging.MergedAt.{MergedAt}
use Rattle.sig_record.specs.RecordOf.{record_of}
use Rattle.sig_record.specs.Merging.{IsMerged}
use Rattle.sig_record.specs.RunRecord.{events_listed}

-- The choices that these events tell, made one after another from the machine m, make the events `made` and lead to `end`. Of the given
-- events only the process and what was done are read: no stamp, no place and no outcome.
abbrev pub Makes : Program → Machine ProcessState Signal → List (At Event) → List (At Event) → Machine ProcessState Signal → Type 0
Makes script m [] made end = (made ≡ []) × (m ≡ end)
Makes script m (a ∷ given) made end =
    (e : Event) × (rest : List (At Event)) × (next : Machine ProcessState Signal) × (made ≡ record { pid = a.pid; event = e } ∷ rest)
    × (apply (rules_of script) m (choice a.pid (acted_at a.event.did)) ≡ Some (record { machine = next; event = e })) × Makes script next given rest end

-- the crew has made the choices of these events, from the script's opening on
pub record HasRetraced (script : Program) (given : List (At Event)) (crew : List Running) : Type 0 where
  pub lawful : IsLawfulCrew script crew
  pub made : List (At Event)
  pub run : Makes script (opening_machine (opening_of script)) given made (machine_of script crew)
  pub told : (q : ℕ) → events_by q made ≡ events_of (slice_get crew q)

-- the choices of the first `count` of these events are possible, and after them that of the next one isn't
pub record StopsAt (script : Program) (given : List (At Event)) (count : ℕ) : Type 0 where
  pub before : List (At Event)
  pub next : At Event
  pub rest : List (At Event)
  pub split : given ≡ before ++ next ∷ rest
  pub many : count ≡ length before
  pub made : List (At Event)
  pub machine : Machine ProcessState Signal
  pub run : Makes script (opening_machine (opening_of script)) before made machine
  pub none : apply (rules_of script) machine (choice next.pid (acted_at next.event.did)) ≡ None

-- the crew has made the choices of the record's events in their order, its outboxes are empty, and these are the origins of that run
pub record IsReplayed (script : Program) (reports : List Report) (crew : List Running) (origins : List Origin) : Type 0 where
  pub order : List MergedAt
  pub merged : IsMerged reports order
  pub retraced : HasRetraced script (events_listed reports order) crew
  pub told : origins ≡ origins_of script (events_listed reports order)
  pub clear : IsClear crew

-- the choices of the events before this one, from 1, are possible, and its own isn't then
pub record IsStopped (script : Program) (reports : List Report) (event : ℕ) : Type 0 where
  pub order : List MergedAt
  pub merged : IsMerged reports order
  pub before : ℕ
  pub number : event ≡ before + 1
  pub stops : StopsAt script (events_listed reports order) before

abbrev pub IsReplay : Program → List Report → Replaying → Type 0
IsReplay script reports (Stopped event) = IsStopped script reports event
IsReplay script reports (Replayed crew origins) = IsReplayed script reports (runnings_of crew) origins

-- it doesn't stop, and the crew's record is this one
abbrev pub GivesAgain : List Report → Replaying → Type 0
GivesAgain reports (Stopped event) = ⊥
GivesAgain reports (Replayed crew origins) = record_of (runnings_of crew) ≡ reports

-- they stop at the same event; or both come to the same machine, their crews have the same record, and the origins are the same
abbrev pub IsSameReplay : Program → Replaying → Replaying → Type 0
IsSameReplay script (Stopped event) (Stopped other) = event ≡ other
IsSameReplay script (Replayed crew origins) (Replayed other others) =
    (machine_of script (runnings_of crew) ≡ machine_of script (runnings_of other))
    × (record_of (runnings_of crew) ≡ record_of (runnings_of other)) × (origins ≡ others)
IsSameReplay script _ _ = ⊥
