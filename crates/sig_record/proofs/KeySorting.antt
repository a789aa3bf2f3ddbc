-- The events of a record can be put in their order.
use Rattle.std.proofs.Common.{◌≡◌, ℕ, ◌<◌, ◌≤◌, ◌⊎◌, List, [], ◌∷◌, map, Bool, true, false, ◌||◌, ◌&&◌, ◌==◌, Some, refl, arith}
use Rattle.std.specs.Prelude.{nat_lt, slice_get, if◌then◌else◌}
use Rattle.std.specs.List.{flat_map}
use Rattle.std.specs.List.Sorted.{IsPermutation}
use Rattle.std.proofs.lemmas.Bool.Decides.{nat_tests}
use Rattle.std.proofs.lemmas.List.Sorted.{IsPermutation-refl, IsPermutation-sym, IsPermutation-cons, IsPermutation-middle, IsPermutation-trans}
use Rattle.sig_record.specs.declared.report.Report.{Report}
use Rattle.sig_record.specs.declared.merging.MergedAt.{MergedAt}
use Rattle.sig_record.specs.declared.merging.Key.{Key}
use Rattle.sig_record.specs.Sorting.{inserted, sorted_by}
use Rattle.sig_record.specs.Merging.{IsMerged}
use Rattle.sig_record.specs.Keys.{NotAfter, keys_of}
use Rattle.sig_runs.proofs.Chains.{Chain, adjacent_from}
use Rattle.sig_record.proofs.MergeLemmas.{sorted_is_merged}

-- of the numbers that keys are sorted by, the first that differ are lower
abbrev is_less : ℕ → ℕ → ℕ → ℕ → ℕ → ℕ → Bool
is_less s t p q i j = nat_lt s t || (s == t && (nat_lt p q || (p == q && nat_lt i j)))

abbrev comes_first : Key → Key → Bool
comes_first a b = is_less a.stamp b.stamp a.at.pid.0 b.at.pid.0 a.at.place b.at.place

less_first : (s t p q i j : ℕ) → is_less s t p q i j ≡ true → (s < t) ⊎ ((s ≡ t) × ((p < q) ⊎ ((p ≡ q) × (i ≤ j))))
less_first s t p q i j h = grind (arith, nat_tests)

not_less_after : (s t p q i j : ℕ) → is_less s t p q i j ≡ false → (t < s) ⊎ ((t ≡ s) × ((q < p) ⊎ ((q ≡ p) × (j ≤ i))))
not_less_after s t p q i j h = grind (arith, nat_tests)

first_not_after : (a b : Key) → comes_first a b ≡ true → NotAfter a b
first_not_after a b h = less_first a.stamp b.stamp a.at.pid.0 b.at.pid.0 a.at.place b.at.place h

else_not_after : (a b : Key) → comes_first a b ≡ false → NotAfter b a
else_not_after a b h = not_less_after a.stamp b.stamp a.at.pid.0 b.at.pid.0 a.at.place b.at.place h

-- y stays ahead of what x was put into
stays_ahead : (x y : Key) (ys : List Key) → NotAfter y x → Chain NotAfter (y ∷ ys) → Chain NotAfter (inserted comes_first x ys) → Chain NotAfter (y ∷ inserted comes_first x ys)
stays_ahead x y [] first chain rest = (first, tt)
stays_ahead x y (z ∷ zs) first chain rest = go (comes_first z x) rest
  where
    go : (b : Bool) → Chain NotAfter (if b then z ∷ inserted comes_first x zs else x ∷ z ∷ zs) → Chain NotAfter (y ∷ (if b then z ∷ inserted comes_first x zs else x ∷ z ∷ zs))
    go true h = (chain.0, h)
    go false h = (first, h)

behind_first : (x : Key) (xs : List Key) → Chain NotAfter (x ∷ xs) → Chain NotAfter xs
behind_first x [] h = tt
behind_first x (y ∷ ys) h = h.1

inserted_chain : (x : Key) (ys : List Key) → Chain NotAfter ys → Chain NotAfter (inserted comes_first x ys)
inserted_chain x [] h = tt
inserted_chain x (y ∷ ys) h = go (comes_first y x) refl (inserted_chain x ys (behind_first y ys h))
  where
    go : (b : Bool) → comes_first y x ≡ b → Chain NotAfter (inserted comes_first x ys) → Chain NotAfter (if b then y ∷ inserted comes_first x ys else x ∷ y ∷ ys)
    go true e rest = stays_ahead x y ys (first_not_after y x e) h rest
    go false e rest = (else_not_after y x e, h)

sorted_chain : (xs : List Key) → Chain NotAfter (sorted_by comes_first xs)
sorted_chain [] = tt
sorted_chain (x ∷ xs) = inserted_chain x (sorted_by comes_first xs) (sorted_chain xs)

inserted_moves : (x : Key) (ys : List Key) → IsPermutation (x ∷ ys) (inserted comes_first x ys)
inserted_moves x [] = IsPermutation-refl (x ∷ [])
inserted_moves x (y ∷ ys) = go (comes_first y x) (inserted_moves x ys)
  where
    go : (b : Bool) → IsPermutation (x ∷ ys) (inserted comes_first x ys) → IsPermutation (x ∷ y ∷ ys) (if b then y ∷ inserted comes_first x ys else x ∷ y ∷ ys)
    go true h =
        IsPermutation-trans (x ∷ y ∷ ys) (y ∷ x ∷ ys) (y ∷ inserted comes_first x ys)
        (IsPermutation-sym (y ∷ x ∷ ys) (x ∷ y ∷ ys) (IsPermutation-middle (y ∷ []) x ys)) (IsPermutation-cons y (x ∷ ys) (inserted comes_first x ys) h)
    go false h = IsPermutation-refl (x ∷ y ∷ ys)

sorted_moves : (xs : List Key) → IsPermutation xs (sorted_by comes_first xs)
sorted_moves [] = IsPermutation-refl []
sorted_moves (x ∷ xs) =
    IsPermutation-trans (x ∷ xs) (x ∷ sorted_by comes_first xs) (inserted comes_first x (sorted_by comes_first xs)) (IsPermutation-cons x xs (sorted_by comes_first xs) (sorted_moves xs)) (inserted_moves x (sorted_by comes_first xs))

-- the events of these reports, each at the place of its pid, in their order
abbrev pub order_of : List Report → List MergedAt
order_of reports = map (λ (k : Key). k.at) (sorted_by comes_first (flat_map keys_of reports))

pub order_is_merged : (reports : List Report) → ((p : ℕ) (r : Report) → slice_get reports p ≡ Some r → r.pid.0 ≡ p) → IsMerged reports (order_of reports)
order_is_merged reports placed =
    sorted_is_merged reports (sorted_by comes_first (flat_map keys_of reports)) placed (sorted_moves (flat_map keys_of reports)) (adjacent_from NotAfter (sorted_by comes_first (flat_map keys_of reports)) (sorted_chain (flat_map keys_of reports)))
