-- The events of the run of one worker, in the order in which its passes make them (this project's own).
use Rattle.std.specs.Prelude.{◌≡◌, ℕ, zero, suc, ◌+◌, List, [], ◌++◌, map, length, drop, true, false, Option, Some, None, slice_get}
use Rattle.sig_runs.specs.Machine.{At}
use Rattle.sig_model.specs.declared.event.Event.{Event}
use Rattle.sig_model.specs.Running.{Running}
use Rattle.sig_model.specs.OneWorker.{visited, visit, pass}

-- these events, as events of the process p
abbrev pub made_by : ℕ → List Event → List (At Event)
made_by p events = map (λ (e : Event). record { pid = p; event = e }) events

-- the events that a visit of this process makes
abbrev pub made_in_visit : ℕ → Option Running → List (At Event)
made_in_visit p None = []
made_in_visit p (Some r) = made_by p (drop (length r.events) (visited r).events)

-- the events that visits of n processes from this one on make
unfoldable pub made_in_pass : ℕ → ℕ → List Running → List (At Event)
made_in_pass zero at crew = []
made_in_pass (suc n) at crew = made_in_visit at (slice_get crew at) ++ made_in_pass n (at + 1) (visit at crew)

-- Passes until one has no event make these events, in this order.
pub data Makes : List Running → List (At Event) → Type 0 where
  none : (crew : List Running) → (pass crew).1 ≡ false → Makes crew []
  passes : (crew : List Running) (later : List (At Event)) → (pass crew).1 ≡ true → Makes (pass crew).0 later → Makes crew (made_in_pass (length crew) 0 crew ++ later)
