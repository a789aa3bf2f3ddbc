-- The run of one worker, as a run of the plain machine that has come to rest.
use Rattle.std.specs.Prelude.{◌≡◌, ℕ, ◌==◌, true, List, [], length, map, Option, Some, None, IsSome, ◌⊎◌, slice_get, if◌then◌else◌}
use Rattle.std.specs.List.{filter}
use Rattle.sig_kinds.specs.declared.signal.Signal.{Signal}
use Rattle.sig_program.specs.Scripts.{Program}
use Rattle.sig_runs.specs.Machine.{Machine, At, IsRun}
use Rattle.sig_runs.specs.Crew.{opening_machine}
use Rattle.sig_runs.specs.Order.{events_by}
use Rattle.sig_runs.specs.Settled.{IsSettled}
use Rattle.sig_model.specs.declared.event.Event.{Event}
use Rattle.sig_model.specs.ProcessState.{ProcessState, is_cut}
use Rattle.sig_model.specs.Executing.{IsWaiting}
use Rattle.sig_model.specs.PrintedState.{is_late}
use Rattle.sig_model.specs.Machine.{rules_of, opening_of}
use Rattle.sig_model.specs.Running.{Running}

-- The signals of s that wait at the process p, in the order of their arrival: p's own ones, or those of s among the ones
-- that it has taken in. Signals of one sender arrive in the order in which they were sent (Erlang Reference Manual,
-- Processes, Delivery of Signals).
abbrev pub waiting_of : ℕ → ℕ → Running → List Signal
waiting_of s p r = if s == p then r.own else filter (λ (x : Signal). x.from.0 == s) r.taken_in

-- The crew as the machine: the processes' states are the machine's, and for each process p of the crew the machine's list
-- of each pair (s, p) is what waits of s at p. To send to a process that isn't there is no fault (Erlang Reference Manual,
-- Expressions, Send): such a signal stands in the list of a pair that no process handles, and nothing is said of it.
pub record IsMachineOf (crew : List Running) (m : Machine ProcessState Signal) : Type 0 where
  pub states : m.procs ≡ map (λ (r : Running). r.state) crew
  pub queued : (s p : ℕ) (r : Running) → slice_get crew p ≡ Some r → m.queued s p ≡ waiting_of s p r

-- the process with this pid runs that part of the script, and has the script's bound on its turns
pub record IsProcessOf (script : Program) (p : ℕ) (r : Running) : Type 0 where
  pub pid : r.pid ≡ p
  pub turns : r.turns ≡ script.turns
  pub proc : slice_get script.procs p ≡ Some r.proc

-- the events of a process, none where there is no process
abbrev pub events_of : Option Running → List Event
events_of None = []
events_of (Some r) = r.events

-- The process is cut; or it has ended, or waits at a receive that no message meets, and in both cases no signal waits for it, or
-- one that it never handles.
abbrev pub IsRunningAtRest : Running → Type 0
IsRunningAtRest r = (is_cut r.turns r.state ≡ true) ⊎ ((IsSome r.state.tables.end ⊎ IsWaiting r.proc r.state) × (((r.own ≡ []) × (r.taken_in ≡ [])) ⊎ (is_late r ≡ true)))

-- The crew is what a settled run of the script's machine leads to: its events are possible one after another from the
-- opening, each an execution or the handling of the oldest signal of one sender; each process has had its own ones in that
-- order; and at the end each process is at rest. Only a late process may go on then, and only by handling a signal. A process
-- that waits at a receive waits until a message matches (Erlang Reference Manual, Expressions, Receive).
pub record IsSettledRun (script : Program) (crew : List Running) : Type 0 where
  pub events : List (At Event)
  -- the machine after them
  pub machine : Machine ProcessState Signal
  pub run : IsRun (rules_of script) (opening_machine (opening_of script)) events machine
  pub shown : IsMachineOf crew machine
  pub processes : (p : ℕ) (r : Running) → slice_get crew p ≡ Some r → IsProcessOf script p r
  pub told : (p : ℕ) → events_by p events ≡ events_of (slice_get crew p)
  pub settled : IsSettled (rules_of script) machine
  -- the crew has the script's processes, and each of them is at rest
  pub many : length crew ≡ length script.procs
  pub resting : (p : ℕ) (r : Running) → slice_get crew p ≡ Some r → IsRunningAtRest r
