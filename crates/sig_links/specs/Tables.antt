-- Sorted lists, as the tables of the link rules.
use Rattle.std.specs.Prelude.{ℕ, ◌-◌, T, List, Vec, vec_len, vec_capacity, map}
use Rattle.std.specs.Ordering.{nat_cmp}
use Rattle.std.specs.FinMap.{FinMap, from_entries, is_sorted}

-- the peers as the keys of entries
abbrev pub marked : List ℕ → List (ℕ × Unit {0})
marked = map (λ peer. (peer, tt))

-- the peers in a list, as the set of the link rules
abbrev pub peers_of : List ℕ → FinMap nat_cmp (Unit {0})
peers_of keys = from_entries (marked keys)

-- the ids by their peers, as the map of the link rules
abbrev pub ids_of : List (ℕ × ℕ) → FinMap nat_cmp ℕ
ids_of entries = from_entries entries

-- each key is below those after it
abbrev pub IsInOrder : {X : Type 0} → List (ℕ × X) → Type 0
IsInOrder entries = T (is_sorted nat_cmp entries)

-- for how many further elements a vector has room
abbrev pub room_of : {X A : Type 0} → Vec X A → ℕ
room_of elements = vec_capacity elements - vec_len elements
