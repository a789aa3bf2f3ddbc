-- What every running process keeps.
use Rattle.std.specs.Prelude.{◌≡◌, ◌≢◌, ℕ, ◌≤◌, List, [], length, All, Some, slice_get}
use Rattle.sig_kinds.specs.declared.signal.Signal.{Signal}
use Rattle.sig_kinds.specs.SignalNames.{IsSignalBelow}
use Rattle.sig_program.specs.Scripts.{IsWithin}
use Rattle.sig_runs.specs.Rules.{Rules}
use Rattle.sig_runs.specs.LocalRun.{Local}
use Rattle.sig_runs.specs.Replay.{RanAlone}
use Rattle.sig_model.specs.declared.event.Event.{Event}
use Rattle.sig_model.specs.declared.state.TheConstants.{LAST_STAMP}
use Rattle.sig_model.specs.ProcessState.{ProcessState, owner_of, opening_state}
use Rattle.sig_model.specs.Machine.{rules_with}
use Rattle.sig_model.specs.Running.{Running}
use Rattle.sig_model.specs.Names.{IsRunningBelow}
use Rattle.sig_model.specs.Bounds.{IsBounded}

-- a signal of the process pid to itself, sent when its last stamp was no later than this one
pub record IsToItself (pid last : ℕ) (x : Signal) : Type 0 where
  pub from : x.from.0 ≡ pid
  pub to : x.to.0 ≡ pid
  pub stamp : x.stamp ≤ last

-- such a signal to another process
pub record IsLeaving (pid last : ℕ) (x : Signal) : Type 0 where
  pub from : x.from.0 ≡ pid
  pub to : x.to.0 ≢ pid
  pub stamp : x.stamp ≤ last

-- a signal to the process pid of another one, of so many, which names none but these; no stamp is above 2^62
pub record IsArriving (pid count : ℕ) (x : Signal) : Type 0 where
  pub from : x.from.0 ≢ pid
  pub to : x.to.0 ≡ pid
  pub below : IsSignalBelow count x
  pub stamp : x.stamp ≤ LAST_STAMP

-- The rules of this process alone: what it does depends on nothing else of a script.
abbrev pub own_rules : Running → Rules ProcessState Signal Event
own_rules r = rules_with r.turns (λ p. Some r.proc)

-- the process as the script opens it, with no signal to itself
abbrev pub opening_local : Running → Local ProcessState Signal
opening_local r = record { state = opening_state r.pid r.count; own = [] }

-- its state, and its signals to itself that it has not handled
abbrev pub local_of : Running → Local ProcessState Signal
local_of r = record { state = r.state; own = r.own }

pub record IsKeeping (r : Running) : Type 0 where
  -- it is one of the script's processes, and names none but these
  pub below : IsRunningBelow r
  -- from its opening it has executed an instruction or handled a signal at each of its events, and these signals are the ones
  -- that it handled (Erlang Reference Manual, Processes, Receiving Signals)
  pub ran : RanAlone (own_rules r) r.pid (opening_local r) r.events r.handled (local_of r)
  -- it makes references of its own
  pub owner : owner_of r.state.tables ≡ r.pid
  -- how far its part of the script and its counts go
  pub within : IsWithin r.proc
  pub bounds : IsBounded r.proc r.state
  -- no stamp is above 2^62 (the limit is this project's own)
  pub low : r.state.counts.stamp ≤ LAST_STAMP
  -- the signals that wait for it, and those that it sent to others (Processes, Delivery of Signals)
  pub own : All (IsToItself r.pid r.state.counts.stamp) r.own
  pub taken_in : All (IsArriving r.pid r.count) r.taken_in
  pub outbox : All (IsLeaving r.pid r.state.counts.stamp) r.outbox

-- the process at each place of the crew has this place as its pid, and is one of as many as there are
abbrev pub IsPlaced : List Running → Type 0
IsPlaced crew = (p : ℕ) (r : Running) → slice_get crew p ≡ Some r → (r.pid ≡ p) × (r.count ≡ length crew)
