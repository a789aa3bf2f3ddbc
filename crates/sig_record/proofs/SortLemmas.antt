-- Sorted lists: a list that is in order, and in which items of which neither is lower stand as they stood, is the sorted list.
use Rattle.std.proofs.Common.{◌≡◌, ℕ, zero, suc, ◌+◌, ◌<◌, ◌≤◌, Bool, true, false, cond, not, List, [], ◌∷◌, ◌++◌, length, get_or, filter, refl, sym, ap, ◌∙◌, subst, arith, inl, inr, suc-le-suc, zero-le}
use Rattle.std.proofs.lemmas.Bool.{cond-true, cond-false, cases_Bool, and_parts, and_from, not-true, not_from_false, both_ways}
use Rattle.std.specs.List.{All}
use Rattle.std.specs.List.Sorted.{ties, IsSortedBy, IsStableBy}
use Rattle.std.specs.Cmp.{IsStrictWeakOrder}
use Rattle.std.proofs.lemmas.List.Sorted.{sorted_far}
use Rattle.std.proofs.lemmas.List.Elements.{All-cons, All-head, All-tail}
use Rattle.sig_record.specs.Sorting.{inserted, sorted_by}

filter_kept : {X : Type 0} (p : X → Bool) (y : X) (ys : List X) → p y ≡ true → filter p (y ∷ ys) ≡ y ∷ filter p ys
filter_kept p y ys h = cond-true _ _ _ h

filter_dropped : {X : Type 0} (p : X → Bool) (y : X) (ys : List X) → p y ≡ false → filter p (y ∷ ys) ≡ filter p ys
filter_dropped p y ys h = cond-false _ _ _ h

-- what holds of each item holds of each of the list with one inserted
inserted_all : {X : Type 0} (lower : X → X → Bool) (P : X → Type 0) (x : X) (ys : List X) → P x → All P ys → All P (inserted lower x ys)
inserted_all lower P x [] h all = All-cons P x [] h all
inserted_all lower P x (y ∷ ys) h all =
    elim (cases_Bool (lower y x)) [
      | inl past ↦ subst (All P) (sym (cond-true (lower y x) _ _ past)) (All-cons P y _ (All-head P y ys all) (inserted_all lower P x ys h (All-tail P y ys all)))
      | inr stays ↦ subst (All P) (sym (cond-false (lower y x) _ _ stays)) (All-cons P x (y ∷ ys) h all)
    ]

-- what holds of each item holds of each of the sorted list
pub sorted_all : {X : Type 0} (lower : X → X → Bool) (P : X → Type 0) (xs : List X) → All P xs → All P (sorted_by lower xs)
sorted_all lower P [] all = all
sorted_all lower P (x ∷ xs) all = inserted_all lower P x (sorted_by lower xs) (All-head P x xs all) (sorted_all lower P xs (All-tail P x xs all))

-- no item of the list is lower than x
abbrev pub IsAhead : {X : Type 0} → (X → X → Bool) → X → List X → Type 0
IsAhead lower x [] = Unit {0}
IsAhead lower x (y ∷ ys) = (lower y x ≡ false) × IsAhead lower x ys

-- no item is lower than one before it
abbrev pub Rises : {X : Type 0} → (X → X → Bool) → List X → Type 0
Rises lower [] = Unit {0}
Rises lower (y ∷ ys) = IsAhead lower y ys × Rises lower ys

-- no item of the second list is lower than one of the first
abbrev pub AllAhead : {X : Type 0} → (X → X → Bool) → List X → List X → Type 0
AllAhead lower [] ys = Unit {0}
AllAhead lower (x ∷ xs) ys = IsAhead lower x ys × AllAhead lower xs ys

ahead_append : {X : Type 0} (lower : X → X → Bool) (x : X) (ys zs : List X) → IsAhead lower x ys → IsAhead lower x zs → IsAhead lower x (ys ++ zs)
ahead_append lower x [] zs left right = right
ahead_append lower x (y ∷ ys) zs left right = (left.0, ahead_append lower x ys zs left.1 right)

pub rises_append : {X : Type 0} (lower : X → X → Bool) (ys zs : List X) → Rises lower ys → Rises lower zs → AllAhead lower ys zs → Rises lower (ys ++ zs)
rises_append lower [] zs left right between = right
rises_append lower (y ∷ ys) zs left right between = (ahead_append lower y ys zs left.0 between.0, rises_append lower ys zs left.1 right between.1)

module _ {X : Type 0} (lower : X → X → Bool) (o : IsStrictWeakOrder lower) where
  same_parts : (x y : X) → ties lower x y ≡ true → (lower x y ≡ false) × (lower y x ≡ false)
  same_parts x y h = let parts = and_parts (not (lower x y)) (not (lower y x)) h in (not-true _ parts.0, not-true _ parts.1)

  same_from : (x y : X) → lower x y ≡ false → lower y x ≡ false → ties lower x y ≡ true
  same_from x y a b = and_from _ _ (not_from_false _ a) (not_from_false _ b)

  not_itself : (x : X) → lower x x ≡ false
  not_itself x = elim (cases_Bool (lower x x)) [
    | inl yes' ↦ o.one_way x x yes'
    | inr no' ↦ no'
  ]

  same_itself : (x : X) → ties lower x x ≡ true
  same_itself x = same_from x x (not_itself x) (not_itself x)

  ahead_of : (x w : X) (ys : List X) → IsAhead lower x ys → lower x w ≡ false → IsAhead lower w ys
  ahead_of x w [] h le = tt
  ahead_of x w (y ∷ ys) h le = (o.chain y x w h.0 le, ahead_of x w ys h.1 le)

  ahead_inserted : (w x : X) (ys : List X) → IsAhead lower w ys → lower x w ≡ false → IsAhead lower w (inserted lower x ys)
  ahead_inserted w x [] h le = (le, tt)
  ahead_inserted w x (y ∷ ys) h le =
      elim (cases_Bool (lower y x)) [
        | inl past ↦ subst (IsAhead lower w) (sym (cond-true (lower y x) _ _ past)) (h.0, ahead_inserted w x ys h.1 le)
        | inr stays ↦ subst (IsAhead lower w) (sym (cond-false (lower y x) _ _ stays)) (le, h)
      ]

  rises_inserted : (x : X) (ys : List X) → Rises lower ys → Rises lower (inserted lower x ys)
  rises_inserted x [] h = (tt, tt)
  rises_inserted x (y ∷ ys) h =
      elim (cases_Bool (lower y x)) [
        | inl past ↦ subst (Rises lower) (sym (cond-true (lower y x) _ _ past)) (ahead_inserted y x ys h.0 (o.one_way y x past), rises_inserted x ys h.1)
        | inr stays ↦ subst (Rises lower) (sym (cond-false (lower y x) _ _ stays)) ((stays, ahead_of y x ys h.0 stays), h)
      ]

  rises_sorted : (xs : List X) → Rises lower (sorted_by lower xs)
  rises_sorted [] = tt
  rises_sorted (x ∷ xs) = rises_inserted x (sorted_by lower xs) (rises_sorted xs)

  filter_inserted : (x c : X) (ds : List X) → filter (ties lower x) (inserted lower c ds) ≡ filter (ties lower x) (c ∷ ds)
  filter_inserted x c [] = refl
  filter_inserted x c (d ∷ ds) =
      let p : X → Bool = ties lower x in
      elim (cases_Bool (lower d c)) [
        | inr stays ↦ ap (filter p) (cond-false (lower d c) _ _ stays)
        | inl past ↦
            ap (filter p) (cond-true (lower d c) _ _ past)
            ∙ elim (cases_Bool (p d)) [
              | inr without ↦
                  filter_dropped p d (inserted lower c ds) without ∙ filter_inserted x c ds
                  ∙ ap (λ (l : List X). cond (p c) (c ∷ l) l) (sym (filter_dropped p d ds without))
              | inl with ↦
                  elim (cases_Bool (p c)) [
                    | inl both ↦
                        absurd (both_ways (lower d c) (o.chain d x c (same_parts x d with).1 (same_parts x c both).0) past)
                    | inr only ↦
                        filter_kept p d (inserted lower c ds) with ∙ ap (λ (l : List X). d ∷ l) (filter_inserted x c ds ∙ filter_dropped p c ds only)
                        ∙ sym (filter_dropped p c (d ∷ ds) only ∙ filter_kept p d ds with)
                  ]
            ]
      ]

  filter_sorted : (x : X) (cs : List X) → filter (ties lower x) (sorted_by lower cs) ≡ filter (ties lower x) cs
  filter_sorted x [] = refl
  filter_sorted x (c ∷ cs) =
      filter_inserted x c (sorted_by lower cs) ∙ ap (λ (l : List X). cond (ties lower x c) (c ∷ l) l) (filter_sorted x cs)

  -- one that ties with x occurs among them
  ahead_found : (v x : X) (ys : List X) (w : X) (ws : List X) → IsAhead lower v ys → filter (ties lower x) ys ≡ w ∷ ws → lower x v ≡ false
  ahead_found v x [] w ws h e = cc
  ahead_found v x (y ∷ ys) w ws h e =
      elim (cases_Bool (ties lower x y)) [
        | inl with ↦ o.chain x y v (same_parts x y with).0 h.0
        | inr without ↦ ahead_found v x ys w ws h.1 (sym (filter_dropped (ties lower x) y ys without) ∙ e)
      ]

  same_lists : (ys zs : List X) → Rises lower ys → Rises lower zs → ((x : X) → filter (ties lower x) ys ≡ filter (ties lower x) zs) → ys ≡ zs
  same_lists [] [] left right same = refl
  same_lists [] (z ∷ zs) left right same =
      let clash = same z ∙ filter_kept (ties lower z) z zs (same_itself z) in cc
  same_lists (y ∷ ys) [] left right same =
      let clash = sym (same y) ∙ filter_kept (ties lower y) y ys (same_itself y) in cc
  same_lists (y ∷ ys) (z ∷ zs) left right same =
      let at_y = filter_kept (ties lower y) y ys (same_itself y) in
      let at_z = filter_kept (ties lower z) z zs (same_itself z) in
      let up = ahead_found z y (z ∷ zs) y _ (not_itself z, right.0) (sym (same y) ∙ at_y) in
      let down = ahead_found y z (y ∷ ys) z _ (not_itself y, left.0) (same z ∙ at_z) in
      let heads = sym at_y ∙ same y ∙ filter_kept (ties lower y) z zs (same_from y z up down) in
      let head : y ≡ z = cc in
      let tails : (x : X) → filter (ties lower x) ys ≡ filter (ties lower x) zs =
      λ x. elim (cases_Bool (ties lower x y)) [
        | inl with ↦
            let both = sym (filter_kept (ties lower x) y ys with) ∙ same x ∙ filter_kept (ties lower x) z zs (ap (ties lower x) (sym head) ∙ with) in cc
        | inr without ↦
            sym (filter_dropped (ties lower x) y ys without) ∙ same x ∙ filter_dropped (ties lower x) z zs (ap (ties lower x) (sym head) ∙ without)
      ] in
      ap (λ (w : X). w ∷ ys) head ∙ ap (λ (l : List X). z ∷ l) (same_lists ys zs left.1 right.1 tails)

  -- a list that rises and keeps those that tie is the sorted one
  pub is_sorted : (xs ys : List X) → Rises lower ys → IsStableBy lower xs ys → ys ≡ sorted_by lower xs
  is_sorted xs ys rises stable = same_lists ys (sorted_by lower xs) rises (rises_sorted xs) (λ x. stable x ∙ sym (filter_sorted x xs))

  ahead_far : (x : X) (ys : List X) → ((j : ℕ) → j < length ys → lower (get_or ys j x) x ≡ false) → IsAhead lower x ys
  ahead_far x [] h = tt
  ahead_far x (y ∷ ys) h = (h zero (suc-le-suc zero-le), ahead_far x ys (λ j lt. h (suc j) (suc-le-suc lt)))

  pub rises_far : (ys : List X) → ((i j : ℕ) (d : X) → i ≤ j → j < length ys → lower (get_or ys j d) (get_or ys i d) ≡ false) → Rises lower ys
  rises_far [] h = tt
  rises_far (y ∷ ys) h = (
    ahead_far y ys (λ j lt. h zero (suc j) y zero-le (suc-le-suc lt)),
    rises_far ys (λ i j d le lt. h (suc i) (suc j) d (suc-le-suc le) (suc-le-suc lt)),
  )

  -- what a stable sort gives
  pub sort_gives : (xs ys : List X) → IsSortedBy lower ys → IsStableBy lower xs ys → ys ≡ sorted_by lower xs
  sort_gives xs ys sorted stable = is_sorted xs ys (rises_far ys (sorted_far lower o ys sorted)) stable

  sorted_from_rises : (ys : List X) → Rises lower ys → IsSortedBy lower ys
  sorted_from_rises [] h k d low lt = absurd (omega arith)
  sorted_from_rises (y ∷ []) h k d low lt = absurd (omega arith)
  sorted_from_rises (y ∷ z ∷ zs) h zero d low lt = h.0.0
  sorted_from_rises (y ∷ z ∷ zs) h (suc k) d low lt =
      let e : suc k + 1 ≡ suc (k + 1) = omega arith in
      subst (λ j. lower (get_or (y ∷ z ∷ zs) j d) (get_or (z ∷ zs) k d) ≡ false) (sym e) (sorted_from_rises (z ∷ zs) h.1 k d zero-le (omega arith))

  -- the sorted list is in order
  pub sorted_rises : (xs : List X) → IsSortedBy lower (sorted_by lower xs)
  sorted_rises xs = sorted_from_rises (sorted_by lower xs) (rises_sorted xs)
