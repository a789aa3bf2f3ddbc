-- The law of a crew of processes that run: of each two of them, all that one sent to the other, once and in order.
use Rattle.std.specs.Prelude.{◌≡◌, ◌≢◌, ℕ, List, [], ◌∷◌, ◌++◌, map, length, Option, Some, None, slice_get, slice_set}
use Rattle.sig_kinds.specs.declared.signal.Signal.{Signal}
use Rattle.sig_program.specs.Scripts.{Program}
use Rattle.sig_runs.specs.Machine.{Machine, apply, choice}
use Rattle.sig_runs.specs.Replay.{acts_told}
use Rattle.sig_runs.specs.Crew.{Member}
use Rattle.sig_runs.specs.OnTheWay.{AtWork, machine_at_work}
use Rattle.sig_model.specs.declared.event.Event.{Event}
use Rattle.sig_model.specs.ProcessState.{ProcessState}
use Rattle.sig_model.specs.Machine.{rules_of}
use Rattle.sig_model.specs.Running.{Running}
use Rattle.sig_model.specs.Keeping.{IsKeeping, IsPlaced, own_rules, opening_local, local_of}
use Rattle.sig_model.specs.Accounts.{came, went, bound_for, IsNumbered}
use Rattle.sig_model.specs.SettledRun.{IsProcessOf}

-- the signals of s that came to a process: those that it handled, and then those that it took in; none where there is no process
abbrev pub came_to : ℕ → Option Running → List Signal
came_to s None = []
came_to s (Some r) = came s r

-- the signals that a process sent to t
abbrev pub went_from : ℕ → Option Running → List Signal
went_from t None = []
went_from t (Some r) = went t r

-- what lies in its outbox
abbrev pub outbox_of : Option Running → List Signal
outbox_of None = []
outbox_of (Some r) = r.outbox

-- and what of it is for t
abbrev pub left_for : ℕ → Option Running → List Signal
left_for t o = bound_for t (outbox_of o)

-- Signals of one process to another arrive in the order in which they were sent (Erlang Reference Manual, Processes, Delivery of
-- Signals): what came to t of s, and then what lies in the outbox of s for t, is what s sent to t.
abbrev pub ArePaired : List Running → Type 0
ArePaired crew = (s t : ℕ) → s ≢ t → came_to s (slice_get crew t) ++ left_for t (slice_get crew s) ≡ went_from t (slice_get crew s)

-- The crew is the script's processes, each of which keeps what it has to keep; and what was sent between each two of them has come, in
-- order, or lies in an outbox. So it is at each moment of a run (this project's own).
pub record IsLawfulCrew (script : Program) (crew : List Running) : Type 0 where
  pub many : length crew ≡ length script.procs
  pub placed : IsPlaced crew
  pub processes : (p : ℕ) (r : Running) → slice_get crew p ≡ Some r → IsProcessOf script p r
  pub keeping : (p : ℕ) (r : Running) → slice_get crew p ≡ Some r → IsKeeping r
  pub numbered : (p : ℕ) (r : Running) → slice_get crew p ≡ Some r → IsNumbered r
  pub pairs : ArePaired crew

-- a process as the theory of processes that run apart has it
abbrev pub whole_member : Running → Member ProcessState Signal Event
whole_member r = record { local = local_of r; taken_in = r.taken_in; acts = acts_told (own_rules r) r.pid (opening_local r) r.events r.handled }

-- and the crew, with its outboxes
abbrev pub crew_at_work : List Running → AtWork ProcessState Signal Event
crew_at_work crew = record { crew = map whole_member crew; outbox = λ p. outbox_of (slice_get crew p) }

-- the crew as the script's machine, whose lists have what is on its way, in outboxes too
abbrev pub machine_of : Program → List Running → Machine ProcessState Signal
machine_of script crew = machine_at_work (rules_of script) (crew_at_work crew)

-- the process p, which was r, is t by one event, and this is one step of the machine
pub record IsMachineStep (script : Program) (crew : List Running) (p : ℕ) (r t : Running) : Type 0 where
  pub event : Event
  pub more : t.events ≡ r.events ++ event ∷ []
  pub step : apply (rules_of script) (machine_of script crew) (choice p ((rules_of script).did event)) ≡ Some (record { machine = machine_of script (slice_set crew p t); event = event })
