-- What an option tells of the one that it comes from, and a list at each of its places.
use Rattle.std.proofs.Common.{◌≡◌, ◌≢◌, ℕ, zero, suc, List, [], ◌∷◌, All, IfSome, Option, Some, None, slice_get, refl, sym, subst, inl, inr}
use Rattle.std.specs.Prelude.{slice_set}
use Rattle.std.specs.Option.{option_map}
use Rattle.std.proofs.lemmas.Bool.Decides.{eqb_tells}
use Rattle.std.proofs.lemmas.List.Elements.{All-head, All-tail}
use Rattle.std.proofs.lemmas.Option.{same_Some}
use Rattle.sig_runs.proofs.Lists.{slice_get-set_same, slice_get-set_other}

-- what a function makes of a value comes from one
pub mapped_tells : {A B : Type 0} (f : A → B) (o : Option A) (y : B) → option_map f o ≡ Some y → (x : A) × (o ≡ Some x) × (f x ≡ y)
mapped_tells f None y h = cc
mapped_tells f (Some x) y h = (x, refl, same_Some (f x) y h)

pub mapped_none : {A B : Type 0} (f : A → B) (o : Option A) → option_map f o ≡ None → o ≡ None
mapped_none f None h = refl
mapped_none f (Some x) h = cc

-- what holds of all values
pub some_any : {A : Type 0} (P : A → Type 0) (o : Option A) → ((x : A) → P x) → IfSome o P
some_any P None h = tt
some_any P (Some x) h = h x

-- what holds of each element holds of the one at a place
pub at_place : {X : Type 0} (P : X → Type 0) (xs : List X) (i : ℕ) → All P xs → IfSome (slice_get xs i) P
at_place P [] i h = tt
at_place P (x ∷ xs) zero h = All-head P x xs h
at_place P (x ∷ xs) (suc i) h = at_place P xs i (All-tail P x xs h)

-- what holds at each place of a list that is changed at one
pub at_set : {X : Type 0} (Q : ℕ → Option X → Type 0) (xs : List X) (p : ℕ) (x y : X) → slice_get xs p ≡ Some x → Q p (Some y)
    → ((q : ℕ) → p ≢ q → Q q (slice_get xs q)) →
    (q : ℕ) → Q q (slice_get (slice_set xs p y) q)
at_set Q xs p x y there here others q = elim (eqb_tells p q) [
  | inl e ↦ subst (λ z. Q z (slice_get (slice_set xs p y) z)) e.1 (subst (λ o. Q p o) (sym (slice_get-set_same xs p y x there)) here)
  | inr e ↦ subst (λ o. Q q o) (sym (slice_get-set_other xs p q y e.1)) (others q e.1)
]
