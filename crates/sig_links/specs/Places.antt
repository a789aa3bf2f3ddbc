-- Where a key is in a list that is in the order of its keys.
use Rattle.std.specs.Prelude.{◌≡◌, ℕ, zero, suc, ◌<◌, T, List, [], ◌∷◌}
use Rattle.std.specs.Ordering.{nat_cmp}
use Rattle.std.specs.FinMap.Entries.{below_all}

-- The entry at the place has the key. Lower keys are before it, and higher ones after it.
abbrev pub IsAt : {X : Type 0} → ℕ → List (ℕ × X) → ℕ → Type 0
IsAt key [] place = ⊥
IsAt key (entry ∷ entries) zero = (entry.0 ≡ key) × T (below_all nat_cmp key entries)
IsAt key (entry ∷ entries) (suc place) = (entry.0 < key) × IsAt key entries place

-- No entry has the key. Lower keys are before the place, and higher ones from it on.
abbrev pub IsGapFor : {X : Type 0} → ℕ → List (ℕ × X) → ℕ → Type 0
IsGapFor key entries zero = T (below_all nat_cmp key entries)
IsGapFor key [] (suc place) = ⊥
IsGapFor key (entry ∷ entries) (suc place) = (entry.0 < key) × IsGapFor key entries place
