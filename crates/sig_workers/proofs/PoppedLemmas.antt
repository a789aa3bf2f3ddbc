-- Lists that are walked from the back.
use Rattle.std.proofs.Common.{◌≡◌, ℕ, zero, suc, List, [], ◌∷◌, ◌++◌, length, take, Some, refl, sym, ap, ◌∙◌}
use Rattle.std.specs.Prelude.{slice_get}
use Rattle.std.proofs.lemmas.Option.{same_Some}

-- the last of the first n
pub popped : {X : Type 0} (n : ℕ) (xs ys : List X) (x : X) → ys ++ x ∷ [] ≡ take n xs → (ys ≡ take (length ys) xs) × (slice_get xs (length ys) ≡ Some x)
popped {X} zero xs [] x h = cc
popped {X} zero xs (y ∷ ys) x h = cc
popped {X} (suc n) [] [] x h = cc
popped {X} (suc n) [] (y ∷ ys) x h = cc
popped {X} (suc n) (z ∷ zs) [] x h = (refl, sym (ap (λ l. slice_get l 0) h))
popped {X} (suc n) (z ∷ zs) (y ∷ ys) x h =
    let more : (ys ≡ take (length ys) zs) × (slice_get zs (length ys) ≡ Some x) = popped n zs ys x (ap (λ l. behind l) h) in
    (ap (λ l. y ∷ l) more.0 ∙ ap (λ a. a ∷ take (length ys) zs) (same_Some y z (ap (λ l. slice_get l 0) h)), more.1)
  where
    behind : List X → List X
    behind [] = []
    behind (a ∷ more) = more
