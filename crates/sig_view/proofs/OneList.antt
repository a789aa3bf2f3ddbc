-- Lists that ascend and have the same elements are one.
use Rattle.std.proofs.Common.{Ordering, Less, Equal, Greater, ◌≡◌, ◌⊎◌, inl, inr, ℕ, zero, suc, ◌+◌, ◌<◌, true, false, List, [], ◌∷◌, length, get_or, IsTrue, refl, sym, ap, ◌∙◌, subst, arith, rules}
use Rattle.std.specs.Prelude.{AllPairs}
use Rattle.std.specs.Cmp.Lexicographic.{slice_cmp}
use Rattle.std.specs.List.{Contains}
use Rattle.std.specs.Ordering.{is_lt, nat_cmp, ordering_reverse}
use Rattle.std.proofs.lemmas.Cmp.{nat_list_cmp_total}
use Rattle.sig_view.specs.OutcomeText.{IsBefore}

-- of two texts only one is before the other
pub one_before : (xs ys : List ℕ) → IsBefore xs ys → IsBefore ys xs → ⊥
one_before xs ys h k = by (slice_cmp nat_cmp xs ys) refl (nat_list_cmp_total.antisymm ys xs)
  where
    by : (o : Ordering) → slice_cmp nat_cmp xs ys ≡ o → slice_cmp nat_cmp ys xs ≡ ordering_reverse (slice_cmp nat_cmp xs ys) → ⊥
    by Less e r = let g : IsTrue (is_lt (ordering_reverse Less)) = subst (λ o. IsTrue (is_lt o)) (r ∙ ap ordering_reverse e) k in absurd (search (rules, g))
    by Equal e r = let g : IsTrue (is_lt Equal) = subst (λ o. IsTrue (is_lt o)) e h in absurd (search (rules, g))
    by Greater e r = let g : IsTrue (is_lt Greater) = subst (λ o. IsTrue (is_lt o)) e h in absurd (search (rules, g))

module _ {X : Type 0} (B : X → X → Type 0) (one_way : (x y : X) → B x y → B y x → ⊥) where
  later_pairs : (x : X) (xs : List X) → AllPairs B (x ∷ xs) → AllPairs B xs
  later_pairs x xs h i j d less within = h (suc i) (suc j) d (omega (arith, less)) (omega (arith, within))

  -- an element of the rest stands behind the first
  behind_first : (x y : X) (xs : List X) → AllPairs B (x ∷ xs) → Contains xs y → B x y
  behind_first x y xs h there = subst (λ z. B x z) there.2 (h 0 (suc there.0) y (omega arith) (let lt : there.0 < length xs = there.1 in omega (arith, lt)))

  -- an element is the first or in the rest
  first_or_later : (x y : X) (xs : List X) → Contains (x ∷ xs) y → (y ≡ x) ⊎ Contains xs y
  first_or_later x y xs (zero, lt, is) = inl (sym is)
  first_or_later x y xs (suc n, lt, is) = inr (n, omega (arith, lt), is)

  same_first : (x y : X) (xs ys : List X) → AllPairs B (x ∷ xs) → AllPairs B (y ∷ ys) → Contains (y ∷ ys) x → Contains (x ∷ xs) y → x ≡ y
  same_first x y xs ys hx hy there back = by (first_or_later y x ys there) (first_or_later x y xs back)
    where
      by : (x ≡ y) ⊎ Contains ys x → (y ≡ x) ⊎ Contains xs y → x ≡ y
      by (inl e) other = e
      by (inr h) (inl e) = sym e
      by (inr h) (inr k) = absurd (one_way x y (behind_first x y xs hx k) (behind_first y x ys hy h))

  none_there : (y : X) → Contains [] y → ⊥
  none_there y there = let lt : there.0 < 0 = there.1 in omega (arith, lt)

  first_there : (x : X) (xs : List X) → Contains (x ∷ xs) x
  first_there x xs = (0, omega arith, refl)

  later_there : (x z : X) (xs : List X) → Contains xs z → Contains (x ∷ xs) z
  later_there x z xs there = (suc there.0, (let lt : there.0 < length xs = there.1 in omega (arith, lt)), there.2)

  -- what the one has behind its first element the other has behind its own, which is the same
  still_there : (x : X) (xs ys : List X) → AllPairs B (x ∷ xs) → ((z : X) → Contains (x ∷ xs) z → Contains (x ∷ ys) z) → (z : X) → Contains xs z → Contains ys z
  still_there x xs ys h all z there = by (first_or_later x z ys (all z (later_there x z xs there)))
    where
      by : (z ≡ x) ⊎ Contains ys z → Contains ys z
      by (inl e) = let own : B x x = subst (λ w. B x w) e (behind_first x z xs h there) in absurd (one_way x x own own)
      by (inr k) = k

  pub one_list : (xs ys : List X) → AllPairs B xs → AllPairs B ys → ((z : X) → Contains xs z → Contains ys z) → ((z : X) → Contains ys z → Contains xs z) → xs ≡ ys
  one_list [] [] hx hy there back = refl
  one_list [] (y ∷ ys) hx hy there back = absurd (none_there y (back y (first_there y ys)))
  one_list (x ∷ xs) [] hx hy there back = absurd (none_there x (there x (first_there x xs)))
  one_list (x ∷ xs) (y ∷ ys) hx hy there back =
      let same : x ≡ y = same_first x y xs ys hx hy (there x (first_there x xs)) (back y (first_there y ys)) in
      let hy' : AllPairs B (x ∷ ys) = subst (λ z. AllPairs B (z ∷ ys)) (sym same) hy in
      let later : xs ≡ ys =
      one_list xs ys (later_pairs x xs hx) (later_pairs y ys hy)
      (still_there x xs ys hx (λ z h. subst (λ w. Contains (w ∷ ys) z) (sym same) (there z h)))
      (still_there x ys xs hy' (λ z h. back z (subst (λ w. Contains (w ∷ ys) z) same h))) in
      ap (λ (z : X). z ∷ xs) same ∙ ap (λ (zs : List X). y ∷ zs) later
