-- The record of a run of the plain machine (this project's own): what it tells of the run's events and of the machine at their
-- end.
use Rattle.std.specs.Prelude.{◌≡◌, ℕ, zero, suc, ◌+◌, List, [], ◌∷◌, ◌++◌, ◌||◌, map, length}
use Rattle.std.specs.List.{list_any, filter_map}
use Rattle.std.specs.Option.{option_map}
use Rattle.sig_kinds.specs.declared.signal.Signal.{Signal}
use Rattle.sig_program.specs.Scripts.{Declared, Program}
use Rattle.sig_runs.specs.Rules.{Rules}
use Rattle.sig_runs.specs.Machine.{Machine, At, IsRun}
use Rattle.sig_runs.specs.Crew.{opening_machine}
use Rattle.sig_runs.specs.Marks.{by_whole}
use Rattle.sig_runs.specs.Order.{events_by}
use Rattle.sig_runs.specs.Settled.{IsSettled}
use Rattle.sig_model.specs.declared.event.Event.{Event}
use Rattle.sig_model.specs.ProcessState.{ProcessState, is_cut}
use Rattle.sig_model.specs.Machine.{rules_of, opening_of}
use Rattle.sig_model.specs.Marking.{whole_of}
use Rattle.sig_model.specs.PrintedState.{is_late_signal, state_of}
use Rattle.sig_record.specs.declared.report.Report.{Report}
use Rattle.sig_record.specs.declared.merging.MergedAt.{MergedAt}
use Rattle.sig_record.specs.RecordOf.{left_of}
use Rattle.sig_record.specs.Merging.{event_at, IsMerged}

-- the signals of the senders below n that are queued for p, by ascending sender, and each sender's the oldest first
unfoldable pub queued_for : Machine ProcessState Signal → ℕ → ℕ → List Signal
queued_for m p zero = []
queued_for m p (suc n) = queued_for m p n ++ m.queued n p

-- The report of the process p, one of so many that may each execute so many instructions: its part of the script tells its name,
-- and it ended with this state. It is ended; else cut, where it is cut or late; else it waits.
abbrev pub run_report : ℕ → ℕ → List (At Event) → Machine ProcessState Signal → ℕ → Declared → ProcessState → Report
run_report count turns events m p d s = record {
  pid = record { 0 = p };
  name = d.name;
  events = events_by p events;
  left = map left_of s.tables.inbox.messages;
  queued = queued_for m p count;
  state = state_of s.tables.end (is_cut turns s || list_any is_late_signal (queued_for m p count));
}

-- the reports of the processes from this pid on, with these states
abbrev pub run_reports : ℕ → ℕ → List (At Event) → Machine ProcessState Signal → ℕ → List Declared → List ProcessState → List Report
run_reports count turns events m p [] states = []
run_reports count turns events m p (d ∷ ds) [] = []
run_reports count turns events m p (d ∷ ds) (s ∷ ss) = run_report count turns events m p d s ∷ run_reports count turns events m (p + 1) ds ss

-- the record of a run of the script that has these events and ends in this machine
abbrev pub record_of_run : Program → List (At Event) → Machine ProcessState Signal → List Report
record_of_run script events m = run_reports (length script.procs) script.turns events m 0 script.procs m.procs

-- the events of a record at these places, in this order
abbrev pub events_listed : List Report → List MergedAt → List (At Event)
events_listed reports order = filter_map (λ a. option_map (λ (e : Event). record { pid = a.pid.0; event = e }) (event_at reports a)) order

-- the rules of the script by which a receive looks at all messages (Expressions, Receive)
abbrev pub whole_rules : Program → Rules ProcessState Signal Event
whole_rules script = by_whole (rules_of script) (whole_of script)

-- The record is that of a run of the script's plain machine that ends in this machine: its events, in the order of their stamps,
-- are possible one after another from the opening, and it tells of them and of this machine.
pub record IsRecordOfRun (script : Program) (machine : Machine ProcessState Signal) (reports : List Report) : Type 0 where
  pub order : List MergedAt
  pub merged : IsMerged reports order
  pub run : IsRun (whole_rules script) (opening_machine (opening_of script)) (events_listed reports order) machine
  pub told : reports ≡ record_of_run script (events_listed reports order) machine

-- the record is that of a run of the script's plain machine, in which a receive looks at all messages, and the run has come to rest
pub record IsOfSettledRun (script : Program) (reports : List Report) : Type 0 where
  pub machine : Machine ProcessState Signal
  pub run : IsRecordOfRun script machine reports
  pub settled : IsSettled (whole_rules script) machine
