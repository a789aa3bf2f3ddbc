-- What a choice of the machine makes of a process that runs, and of its crew (Erlang Reference Manual, Processes, Receiving Signals and
-- Delivery of Signals; choices are this project's own).
use Rattle.std.specs.Prelude.{◌≡◌, ◌≢◌, ℕ, List, [], ◌∷◌, ◌++◌, length, All, Bool, false, not, ◌&&◌, ◌||◌, ◌==◌, ◌⊎◌, Option, Some, None, slice_get, slice_set, if◌then◌else◌}
use Rattle.sig_kinds.specs.declared.signal.Signal.{Signal}
use Rattle.sig_program.specs.Scripts.{Program}
use Rattle.sig_runs.specs.Machine.{Choice, apply}
use Rattle.sig_model.specs.declared.event.Event.{Event}
use Rattle.sig_model.specs.declared.event.Did.{Did}
use Rattle.sig_model.specs.declared.event.Did.TheVariants.{Exec, From}
use Rattle.sig_model.specs.ProcessState.{is_cut}
use Rattle.sig_model.specs.Machine.{rules_of}
use Rattle.sig_model.specs.Running.{Running, next_of, is_early, exec_next, handle_next}
use Rattle.sig_model.specs.Keeping.{IsArriving}
use Rattle.sig_model.specs.SettledRun.{waiting_of, events_of}
use Rattle.sig_model.specs.CrewLaw.{outbox_of, IsLawfulCrew, machine_of}
use Rattle.sig_choices.specs.Waiting.{AreAlike}

-- the oldest of these signals
abbrev pub oldest : List Signal → Option Signal
oldest [] = None
oldest (x ∷ xs) = Some x

-- The process may handle the oldest signal of s: it isn't cut, there is one, with a stamp below 2^62, and it is one to itself, or the
-- process has none to itself.
abbrev pub may_handle : ℕ → Running → Bool
may_handle s r = not (is_cut r.turns r.state) && is_early (oldest (waiting_of s r.pid r)) && (s == r.pid || length r.own == 0)

-- it has handled the oldest signal of s, which is the first where what waits for it stands in this order
pub record HasHandledOf (s : ℕ) (r t : Running) : Type 0 where
  pub waits : List Signal
  pub alike : AreAlike waits r.taken_in
  pub arriving : All (IsArriving r.pid r.count) waits
  pub signal : Signal
  pub next : next_of r.own waits ≡ Some signal
  -- it comes from s, or is the process's oldest signal to itself
  pub from : (signal.from.0 ≡ s) ⊎ ((s ≡ r.pid) × ((rest : List Signal) × (r.own ≡ signal ∷ rest)))
  pub handled : handle_next (record r { taken_in = waits }) ≡ Some t

-- the process has done what an event did, and it can't do that
abbrev pub Acts : Did → Running → Running → Type 0
Acts (Exec place) r t = exec_next r ≡ Some t
Acts (From sender number) r t = HasHandledOf sender.0 r t

abbrev pub Refuses : Did → Running → Type 0
Refuses (Exec place) r = exec_next r ≡ None
Refuses (From sender number) r = may_handle sender.0 r ≡ false

-- the events of each process are as before, but for one more of p
abbrev pub events_with : List Running → ℕ → Event → ℕ → List Event
events_with crew p event q = if p == q then events_of (slice_get crew q) ++ event ∷ [] else events_of (slice_get crew q)

-- A crew has made this choice, of the process p: it is one step of the script's machine.
pub record HasMade (script : Program) (crew : List Running) (p : ℕ) (c : Choice) (after : List Running) : Type 0 where
  pub lawful : IsLawfulCrew script after
  pub event : Event
  pub step : apply (rules_of script) (machine_of script crew) c ≡ Some (record { machine = machine_of script after; event = event })
  pub events : (q : ℕ) → events_of (slice_get after q) ≡ events_with crew p event q

-- no signal lies in an outbox
abbrev pub AreEmptied : List Running → Type 0
AreEmptied crew = (q : ℕ) → outbox_of (slice_get crew q) ≡ []

-- the oldest signal in the outbox of p has joined those that wait for its receiver
pub record IsPosted (crew : List Running) (p : ℕ) (after : List Running) : Type 0 where
  pub sender : Running
  pub there : slice_get crew p ≡ Some sender
  pub signal : Signal
  pub left : List Signal
  pub oldest : sender.outbox ≡ signal ∷ left
  pub apart : p ≢ signal.to.0
  pub receiver : Running
  pub at : slice_get crew signal.to.0 ≡ Some receiver
  pub waits : List Signal
  pub alike : AreAlike waits (receiver.taken_in ++ signal ∷ [])
  pub arriving : All (IsArriving receiver.pid receiver.count) waits
  pub set : after ≡ slice_set (slice_set crew p (record sender { outbox = left })) signal.to.0 (record receiver { taken_in = waits })

-- signals of the outbox of p have joined those that wait for their receivers: that is no step of the machine
pub record HasPosted (crew : List Running) (p : ℕ) (after : List Running) : Type 0 where
  pub lawful : (script : Program) → IsLawfulCrew script crew → IsLawfulCrew script after
  pub still : (script : Program) → IsLawfulCrew script crew → machine_of script after ≡ machine_of script crew
  pub events : (q : ℕ) → events_of (slice_get after q) ≡ events_of (slice_get crew q)
  pub others : (q : ℕ) → p ≢ q → outbox_of (slice_get after q) ≡ outbox_of (slice_get crew q)
