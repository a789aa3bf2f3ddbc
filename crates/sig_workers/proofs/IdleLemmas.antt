-- A visit of a process that has nothing to do.
use Rattle.std.proofs.Common.{◌≡◌, ℕ, ◌<◌, List, [], length, Bool, true, false, Some, refl, sym, ap, ◌∙◌, get_or}
use Rattle.std.specs.Prelude.{slice_get, slice_set, unwrap_or, not, ◌==◌, ◌&&◌}
use Rattle.std.specs.Option.{option_map_or}
use Rattle.std.proofs.lemmas.Bool.{eqb-false}
use Rattle.sig_kinds.specs.declared.signal.Signal.{Signal}
use Rattle.sig_model.specs.declared.event.Event.{Event}
use Rattle.sig_model.specs.ProcessState.{is_cut}
use Rattle.sig_model.specs.Running.{Running, can_handle, next_of, is_early}
use Rattle.sig_model.specs.Still.{IsStill}
use Rattle.sig_model.specs.OneWorker.{handle_all, exec_or_stay, visited, deliver_all, settled_visit, visit_at, visit, event_count, has_moved}
use Rattle.sig_model.proofs.ReachLemmas.{set_here}
use Rattle.sig_process.specs.Idling.{IsIdle}
use Rattle.sig_process.specs.Standing.{Standing, runnings_of}
use Rattle.sig_workers.proofs.RunLemmas.{handle_none}
use Rattle.sig_workers.proofs.PartLemmas.{running_at}

-- the process stays as it is
idle_visited : (r : Running) → IsIdle r → visited r ≡ r
unfolding visited
idle_visited r i =
    ap exec_or_stay
    (handle_none (length r.taken_in) (handle_all (length r.own) r) (ap (λ (xs : List Signal). length xs) i.taken_in)
    ∙ handle_none (length r.own) r (ap (λ (xs : List Signal). length xs) i.own))
    ∙ ap (λ o. unwrap_or o r) i.still

-- it delivers nothing
idle_settled : (crew : List Running) (at : ℕ) (r : Running) → slice_get crew at ≡ Some r → r.outbox ≡ [] → settled_visit at r crew ≡ crew
unfolding deliver_all
idle_settled crew at r there empty =
    ap (λ xs. deliver_all xs (slice_set crew at (record r { outbox = [] }))) empty
    ∙ ap (λ (xs : List Signal). slice_set crew at (record r { outbox = xs })) (sym empty)
    ∙ set_here crew at r there

-- it can do nothing
none_early : (b : Bool) → (b && is_early (next_of [] [])) ≡ false
none_early true = refl
none_early false = refl

pub idle_still : (r : Running) → IsIdle r → IsStill r
unfolding can_handle
idle_still r i = record {
  handle = ap (λ xs. not (is_cut r.turns r.state) && is_early (next_of xs r.taken_in)) i.own
      ∙ ap (λ xs. not (is_cut r.turns r.state) && is_early (next_of [] xs)) i.taken_in
      ∙ none_early (not (is_cut r.turns r.state));
  exec = i.still;
}

-- so the crew stays as it is
pub idle_visit : (crew : List Running) (at : ℕ) (r : Running) → slice_get crew at ≡ Some r → IsIdle r → visit at crew ≡ crew
unfolding visit
idle_visit crew at r there idle =
    ap (λ o. visit_at at o crew) there ∙ ap (λ v. settled_visit at v crew) (idle_visited r idle) ∙ idle_settled crew at r there idle.outbox

-- that is no event
pub not_moved : (at : ℕ) (crew : List Running) → has_moved at crew crew ≡ false
not_moved at crew = by (event_count at crew == event_count at crew) refl where
  by : (b : Bool) → (event_count at crew == event_count at crew) ≡ b → not b ≡ false
  by true e = refl
  by false e = absurd (eqb-false (event_count at crew) (event_count at crew) e refl)

-- how many events the process at a place has
pub events_here : (procs : List Standing) (at : ℕ) (p : Standing) (events : List Event) (n : ℕ) → at < length procs → p ≡ get_or procs at p → events ≡ p.running.events → n ≡ length events → n ≡ event_count at (runnings_of procs)
events_here procs at p events n lt is same count =
    count ∙ ap (λ (xs : List Event). length xs) same ∙ sym (ap (λ o. option_map_or (λ (r : Running). length r.events) o 0) (running_at procs at p lt is))
