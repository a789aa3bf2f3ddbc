-- Lists from a place on.
use Rattle.std.proofs.Common.{◌≡◌, suc, subst, arith, List, ◌∷◌}
use Rattle.std.specs.Prelude.{All}
use Rattle.std.proofs.lemmas.List.Elements.{All-head}

-- what holds of each item holds of each later one
pub all_later : {A : Type 0} (P : A → Type 0) (xs : List A) (x : A) (later : List A) → xs ≡ x ∷ later → All P xs → All P later
all_later P xs x later e h k d lt = subst (λ ys. All P ys) e h (suc k) d (omega arith)

-- what holds of each item holds of the first one
pub all_first : {A : Type 0} (P : A → Type 0) (xs : List A) (x : A) (later : List A) → xs ≡ x ∷ later → All P xs → P x
all_first P xs x later e h = All-head P x later (subst (λ ys. All P ys) e h)
