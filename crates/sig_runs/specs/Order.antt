-- The order of a crew's events: by rising stamp, then pid, then place.
use Rattle.std.specs.Prelude.{[], ◌∷◌, if◌then◌else◌, ℕ, Bool, cond, ◌==◌, ◌≡◌, ◌<◌, ◌≤◌, ◌&&◌, ◌⊎◌, List, length, Option, Some, None, is_some, slice_get}
use Rattle.std.specs.List.{count_by, filter_map, AllAdjacentBelow}
use Rattle.std.specs.Option.{option_map}
use Rattle.sig_runs.specs.Rules.{Rules}
use Rattle.sig_runs.specs.Machine.{At}
use Rattle.sig_runs.specs.LocalRun.{Act}
use Rattle.sig_runs.specs.Crew.{Member, acts_of}

-- an event by its process and its place among that process's events, from 0
pub record Place : Type 0 where
  pub pid : ℕ
  pub place : ℕ

-- the two are one event
abbrev pub is_at : Place → Place → Bool
is_at a b = a.pid == b.pid && a.place == b.place

-- the event at this place, if there is one
abbrev pub act_at : {S X E : Type 0} → List (Member S X E) → Place → Option (Act S X E)
act_at crew a = slice_get (acts_of (slice_get crew a.pid)) a.place

-- the stamp of an event
abbrev pub stamp_of : {S X E : Type 0} → Rules S X E → Option (Act S X E) → ℕ
stamp_of rules None = 0
stamp_of rules (Some a) = rules.event_stamp a.effect.event

-- the stamp of the event at this place
abbrev pub stamp_at : {S X E : Type 0} → Rules S X E → List (Member S X E) → Place → ℕ
stamp_at rules crew a = stamp_of rules (act_at crew a)

-- Lamport's order of all events: the lower stamp comes first, of equal stamps the lower pid, of one process the earlier place.
abbrev pub IsBefore : {S X E : Type 0} → Rules S X E → List (Member S X E) → Place → Place → Type 0
IsBefore rules crew a b =
    (stamp_at rules crew a < stamp_at rules crew b) ⊎ ((stamp_at rules crew a ≡ stamp_at rules crew b) × ((a.pid < b.pid) ⊎ ((a.pid ≡ b.pid) × (a.place < b.place))))

-- the list has each event of the crew once and nothing else, each before the next
pub record IsOrder {S X E : Type 0} (rules : Rules S X E) (crew : List (Member S X E)) (order : List Place) : Type 0 where
  pub once : (a : Place) → count_by (is_at a) order ≡ cond (is_some (act_at crew a)) 1 0
  pub rising : AllAdjacentBelow (IsBefore rules crew) order (length order)

-- Of keys with a stamp and a place, as they are sorted: a comes before b, or is the same.
abbrev pub NotAfter : {K : Type 0} → (K → ℕ) → (K → Place) → K → K → Type 0
NotAfter stamp place a b = (stamp a < stamp b) ⊎ ((stamp a ≡ stamp b) × (((place a).pid < (place b).pid) ⊎ (((place a).pid ≡ (place b).pid) × ((place a).place ≤ (place b).place))))

-- the key is the one of this place
abbrev pub counts : {K : Type 0} → (K → Place) → Place → K → Bool
counts place a k = is_at a (place k)

-- the events at these places
abbrev pub events_at : {S X E : Type 0} → List (Member S X E) → List Place → List (At E)
events_at crew order = filter_map (λ a. option_map (λ act. record { pid = a.pid; event = act.effect.event }) (act_at crew a)) order

-- the events of p in the list, in their order
abbrev pub events_by : {E : Type 0} → ℕ → List (At E) → List E
events_by p [] = []
events_by p (a ∷ later) = if a.pid == p then a.event ∷ events_by p later else events_by p later
