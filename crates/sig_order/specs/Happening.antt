-- Which event happened before which (Lamport's relation; that it is told of a record and of the origins of its signals is this project's
-- own).
use Rattle.std.specs.Prelude.{◌≡◌, ℕ, zero, suc, ◌+◌, ◌-◌, ◌<◌, ◌==◌, ◌⊎◌, Bool, true, is_some, List, All, Option, Some, None, option_and_then, if◌then◌else◌}
use Rattle.std.specs.List.{Contains}
use Rattle.std.specs.Option.{option_map_or}
use Rattle.sig_kinds.specs.declared.signal.Signal.{Signal}
use Rattle.sig_model.specs.declared.event.Event.{Event}
use Rattle.sig_model.specs.declared.event.Did.{Did}
use Rattle.sig_model.specs.declared.event.Did.TheVariants.{Exec, From}
use Rattle.sig_model.specs.declared.origin.Origin.{Origin}
use Rattle.sig_choices.specs.Origins.{origin_of}
use Rattle.sig_record.specs.declared.report.Report.{Report}
use Rattle.sig_record.specs.Merging.{event_at}
use Rattle.sig_order.specs.declared.at.At.{At}

-- the event, where the record has it
abbrev pub event_of : List Report → At → Option Event
event_of reports a = if a.event == 0 then None else event_at reports (record { pid = record { 0 = a.pid }; place = a.event - 1 })

abbrev pub is_there : List Report → At → Bool
is_there reports a = is_some (event_of reports a)

abbrev pub stamp_of : List Report → At → ℕ
stamp_of reports a = option_map_or (λ (e : Event). e.stamp) (event_of reports a) 0

-- the sender and the number of the signal that was handled, where one was
abbrev pub handled_by : Did → Option (ℕ × ℕ)
handled_by (Exec place) = None
handled_by (From sender number) = Some (sender.0, number)

abbrev pub handled_at : List Report → At → Option (ℕ × ℕ)
handled_at reports a = option_and_then (λ (e : Event). handled_by e.did) (event_of reports a)

-- the event e sent the signal with this number to this process
abbrev pub origin_by : At → ℕ → ℕ → Origin
origin_by e to number = record { from = record { 0 = e.pid }; to = record { 0 = to }; number = number; event = e.event }

-- e sent the signal that f handled
abbrev pub IsSentTo : List Report → List Origin → At → At → Type 0
IsSentTo reports origins e f = (number : ℕ) × (handled_at reports f ≡ Some (e.pid, number)) × Contains origins (origin_by e f.pid number)

-- f is the next event of the process of e
abbrev pub IsNext : At → At → Type 0
IsNext e f = (f.pid ≡ e.pid) × (f.event ≡ e.event + 1)

-- a step leads from an event to the next one of the same process, and from the event that sent a signal to the one that handled it
pub record IsStep (reports : List Report) (origins : List Origin) (e f : At) : Type 0 where
  pub first : is_there reports e ≡ true
  pub second : is_there reports f ≡ true
  pub leads : IsNext e f ⊎ IsSentTo reports origins e f

-- a chain of n steps behind the first
abbrev pub Chain : List Report → List Origin → ℕ → At → At → Type 0
Chain reports origins zero e f = IsStep reports origins e f
Chain reports origins (suc n) e f = (mid : At) × IsStep reports origins e mid × Chain reports origins n mid f

-- e happened before f: a chain of one or more steps leads from e to f
abbrev pub HappenedBefore : List Report → List Origin → At → At → Type 0
HappenedBefore reports origins e f = (n : ℕ) × Chain reports origins n e f

-- What the order of events asks of a record and the origins of its signals: at most one event sent each signal, and each step leads to a
-- higher stamp. That each signal has an origin isn't said by it.
pub record IsTraced (reports : List Report) (origins : List Origin) : Type 0 where
  pub one : (a b : Origin) → Contains origins a → Contains origins b → a.from.0 ≡ b.from.0 → a.to.0 ≡ b.to.0 → a.number ≡ b.number → a.event ≡ b.event
  pub rises : (e f : At) → IsStep reports origins e f → stamp_of reports e < stamp_of reports f

-- Of each signal that an event of the record handled one of the origins tells the event that sent it, and the record has that event.
abbrev pub HandledAreTold : List Report → List Origin → Type 0
HandledAreTold reports origins =
    (f : At) (from number : ℕ) → handled_at reports f ≡ Some (from, number) →
    (e : At) × (e.pid ≡ from) × (is_there reports e ≡ true) × Contains origins (origin_by e f.pid number)

-- one of the origins tells the event that sent the signal, and the record has that event, with the signal's stamp
abbrev pub IsTold : List Report → List Origin → Signal → Type 0
IsTold reports origins x =
    (e : At) × (e.pid ≡ x.from.0) × (is_there reports e ≡ true) × (stamp_of reports e ≡ x.stamp) × Contains origins (origin_of e.event x)

-- so it is of each signal that is still queued
abbrev pub QueuedAreTold : List Report → List Origin → Type 0
QueuedAreTold reports origins = All (λ (r : Report). All (IsTold reports origins) r.queued) reports
