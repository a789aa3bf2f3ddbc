-- Lists: the two parts of a pair's list, and a list that is changed at one place.
use Rattle.std.proofs.Common.{◌≡◌, ℕ, zero, suc, List, [], ◌∷◌, ◌++◌, Some, None, refl, sym, ap, ◌∙◌, inl, inr, ◌⊎◌, append_assoc}
use Rattle.std.specs.Prelude.{slice_get, slice_set}
use Rattle.std.proofs.lemmas.List.{append_cancel_left}

-- what is left of a pair's lists after h was handled and d sent
pub pairs_step : {X : Type 0} (h H F M N d D : List X) → h ++ N ≡ M ++ d → (h ++ H) ++ F ≡ M ++ (d ++ D) → H ++ F ≡ N ++ D
pairs_step h H F M N d D e g =
    append_cancel_left h (H ++ F) (N ++ D)
    (sym (append_assoc h H F) ∙ g ∙ sym (append_assoc M d D) ∙ ap (λ z. z ++ D) (sym e) ∙ append_assoc h N D)

-- x is the first of the two lists joined: it heads the first, or the first is empty
pub head_of : {X : Type 0} (x : X) (H M D : List X) → x ∷ H ≡ M ++ D → (((rest : List X) × (M ≡ x ∷ rest)) ⊎ ((M ≡ []) × (D ≡ x ∷ H)))
head_of x H [] D e = inr (refl, sym e)
head_of x H (y ∷ M) D e = let p : x ≡ y = cc in inl (M, ap (λ z. z ∷ M) (sym p))

pub slice_get-set_same : {X : Type 0} (xs : List X) (i : ℕ) (x y : X) → slice_get xs i ≡ Some y → slice_get (slice_set xs i x) i ≡ Some x
slice_get-set_same [] i x y h = cc
slice_get-set_same (z ∷ zs) zero x y h = refl
slice_get-set_same (z ∷ zs) (suc i) x y h = slice_get-set_same zs i x y h

pub slice_get-set_other : {X : Type 0} (xs : List X) (i j : ℕ) (x : X) → (i ≡ j → ⊥) → slice_get (slice_set xs i x) j ≡ slice_get xs j
slice_get-set_other [] i j x h = refl
slice_get-set_other (z ∷ zs) zero zero x h = absurd (h refl)
slice_get-set_other (z ∷ zs) zero (suc j) x h = refl
slice_get-set_other (z ∷ zs) (suc i) zero x h = refl
slice_get-set_other (z ∷ zs) (suc i) (suc j) x h = slice_get-set_other zs i j x (λ e. h (ap suc e))

pub same_lists_at : {X : Type 0} (xs ys : List X) → ((p : ℕ) → slice_get xs p ≡ slice_get ys p) → xs ≡ ys
same_lists_at [] [] h = refl
same_lists_at [] (y ∷ ys) h = let e : None ≡ Some y = h 0 in absurd cc
same_lists_at (x ∷ xs) [] h = let e : Some x ≡ None = h 0 in absurd cc
same_lists_at (x ∷ xs) (y ∷ ys) h =
    let e : Some x ≡ Some y = h 0 in
    let t : xs ≡ ys = same_lists_at xs ys (λ p. h (suc p)) in
    cc

-- what is still to come of a pair's lists after h was handled and d sent
pub pair_event : {X : Type 0} (H h W d M S : List X) → h ++ W ≡ M → H ++ M ≡ S → (H ++ h) ++ (W ++ d) ≡ S ++ d
pair_event H h W d M S e old =
    append_assoc H h (W ++ d) ∙ ap (λ z. H ++ z) (sym (append_assoc h W d) ∙ ap (λ z. z ++ d) e) ∙ sym (append_assoc H M d) ∙ ap (λ z. z ++ d) old

-- what a step does to the list of a process's signals to itself
pub own_step : {X : Type 0} (h H f l o d D : List X) → h ++ o ≡ l → H ++ f ≡ (o ++ d) ++ D → (h ++ H) ++ f ≡ l ++ (d ++ D)
own_step h H f l o d D e g =
    append_assoc h H f ∙ ap (λ z. h ++ z) (g ∙ append_assoc o d D) ∙ sym (append_assoc h o (d ++ D)) ∙ ap (λ z. z ++ (d ++ D)) e
