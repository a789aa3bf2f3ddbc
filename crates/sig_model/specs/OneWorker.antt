-- The run of one worker (this project's own): passes over the processes by ascending pid, until one has no event.
use Rattle.std.specs.Prelude.{◌≡◌, ℕ, zero, suc, ◌+◌, List, [], ◌∷◌, ◌++◌, length, All, slice_get, slice_set, Bool, true, false, ◌||◌, not, ◌==◌, Option, Some, None, unwrap_or}
use Rattle.std.specs.Option.{option_map_or}
use Rattle.sig_kinds.specs.declared.signal.Signal.{Signal}
use Rattle.sig_program.specs.Scripts.{Declared}
use Rattle.sig_program.specs.Scripts.{Program}
use Rattle.sig_model.specs.Running.{Running, opened, exec_next, handle_next}

-- handlings of signals, as long as one may be handled, at most n
abbrev pub or_stay : Option Running → Running → (Running → Running) → Running
or_stay None r go = r
or_stay (Some t) r go = go t

unfoldable pub handle_all : ℕ → Running → Running
handle_all zero r = r
handle_all (suc n) r = or_stay (handle_next r) r (λ t. handle_all n t)

-- the next instruction, where one may be executed
abbrev pub exec_or_stay : Running → Running
exec_or_stay r = unwrap_or (exec_next r) r

-- A visit of a process: it handles the signals that wait, its own ones and then those of others, and executes one
-- instruction.
unfoldable pub visited : Running → Running
visited r = exec_or_stay (handle_all (length r.taken_in) (handle_all (length r.own) r))

-- a signal joins the arrival list of its receiver
abbrev pub arrived : Running → Signal → Running
arrived r signal = record r { taken_in = r.taken_in ++ signal ∷ [] }

abbrev pub deliver_to : Option Running → Signal → List Running → List Running
deliver_to None signal crew = crew
deliver_to (Some r) signal crew = slice_set crew signal.to.0 (arrived r signal)

unfoldable pub deliver_all : List Signal → List Running → List Running
deliver_all [] crew = crew
deliver_all (x ∷ xs) crew = deliver_all xs (deliver_to (slice_get crew x.to.0) x crew)

-- the crew after a visit of the process at this place, whose signals to others are delivered at once
abbrev pub settled_visit : ℕ → Running → List Running → List Running
settled_visit at r crew = deliver_all r.outbox (slice_set crew at (record r { outbox = [] }))

abbrev pub visit_at : ℕ → Option Running → List Running → List Running
visit_at at None crew = crew
visit_at at (Some r) crew = settled_visit at (visited r) crew

unfoldable pub visit : ℕ → List Running → List Running
visit at crew = visit_at at (slice_get crew at) crew

abbrev pub event_count : ℕ → List Running → ℕ
event_count at crew = option_map_or (λ r. length r.events) (slice_get crew at) 0

-- the visit of this process had an event
abbrev pub has_moved : ℕ → List Running → List Running → Bool
has_moved at before after = not (event_count at before == event_count at after)

-- visits of n processes from this one on, and whether one had an event
unfoldable pub pass_from : ℕ → ℕ → Bool → List Running → List Running × Bool
pass_from zero at moved crew = (crew, moved)
pass_from (suc n) at moved crew = pass_from n (at + 1) (moved || has_moved at crew (visit at crew)) (visit at crew)

-- A pass over the processes by ascending pid.
abbrev pub pass : List Running → List Running × Bool
pass crew = pass_from (length crew) 0 false crew

-- Passes until one has no event lead from this crew to the last.
pub data RunsTo : List Running → List Running → Type 0 where
  rests : (crew : List Running) → (pass crew).1 ≡ false → RunsTo crew (pass crew).0
  goes : (crew last : List Running) → (pass crew).1 ≡ true → RunsTo (pass crew).0 last → RunsTo crew last

-- no signal lies in an outbox
abbrev pub IsClear : List Running → Type 0
IsClear crew = All (λ r. r.outbox ≡ []) crew

-- the processes of a script as it opens them, by pid
abbrev pub opened_from : ℕ → ℕ → ℕ → List Declared → List Running
opened_from pid count turns [] = []
opened_from pid count turns (p ∷ ps) = opened pid count turns p ∷ opened_from (pid + 1) count turns ps

abbrev pub opened_crew : Program → List Running
opened_crew script = opened_from 0 (length script.procs) script.turns script.procs
