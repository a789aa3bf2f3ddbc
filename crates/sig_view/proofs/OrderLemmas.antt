-- Lists in another order, and lists in the order of texts.
use Rattle.std.proofs.Common.{Ordering, Less, Equal, Greater, ◌≡◌, ◌⊎◌, inl, inr, ℕ, ◌<◌, ◌≤◌, Bool, true, false, List, [], ◌∷◌, length, get_or, map, refl, sym, ap, ◌∙◌, subst, arith, IsTrue, rules}
use Rattle.std.specs.Prelude.{All, AllPairs}
use Rattle.std.specs.List.{swap}
use Rattle.std.specs.List.Sorted.{IsPermutation, IsSortedBy}
use Rattle.std.specs.Cmp.{IsStrictWeakOrder}
use Rattle.std.specs.Cmp.Lexicographic.{slice_cmp}
use Rattle.std.specs.Fn.{Called, ComparesAs}
use Rattle.std.specs.Ordering.{is_le, is_lt, nat_cmp, ordering_reverse}
use Rattle.std.proofs.lemmas.Bool.{cases_eq, cases_lt}
use Rattle.std.proofs.lemmas.Cmp.{nat_list_cmp_total}
use Rattle.std.proofs.lemmas.Fn.{always_returns_same}
use Rattle.std.proofs.lemmas.List.{get_or-map, length-map}
use Rattle.std.proofs.lemmas.List.Edits.{Swapped, swapped_from_swap, length-swap}
use Rattle.std.proofs.lemmas.Map.Lookups.{exact_bytes}
use Rattle.std.proofs.lemmas.List.Sorted.{IsPermutation-keeps, ranks_by, sorted_far}
use denote.Ref.{Bor}
use denote.Param.Members.{Mut}
use Rattle.sig_view.specs.OutcomeText.{IsBefore, IsNotBehind}

-- ---- pairs, in another order

-- where a place went when a and b changed places
moved : {X : Type 0} (f g : ℕ → X) (a b n : ℕ) → Swapped f g a b → a < n → b < n → (p : ℕ) → p < n
    → (s : ℕ) × (s < n) × (g p ≡ f s) × (p ≡ a → s ≡ b) × (p ≡ b → s ≡ a) × ((p ≡ a → ⊥) → (p ≡ b → ⊥) → s ≡ p)
moved f g a b n sw la lb p lp = by (cases_eq p a) (cases_eq p b)
  where
    by : (p ≡ a) ⊎ (p ≡ a → ⊥) → (p ≡ b) ⊎ (p ≡ b → ⊥)
        → (s : ℕ) × (s < n) × (g p ≡ f s) × (p ≡ a → s ≡ b) × (p ≡ b → s ≡ a) × ((p ≡ a → ⊥) → (p ≡ b → ⊥) → s ≡ p)
    by (inl ea) _ = (b, lb, ap g ea ∙ sw.0, (λ _. refl), (λ eb. omega arith), (λ u v. absurd (u ea)))
    by (inr na) (inl eb) = (a, la, ap g eb ∙ sw.1, (λ e. absurd (na e)), (λ _. refl), (λ u v. absurd (v eb)))
    by (inr na) (inr nb) = (p, lp, sw.2 p na nb, (λ e. absurd (na e)), (λ e. absurd (nb e)), (λ u v. refl))

-- two places go to two places
apart : (a b i j s t : ℕ) → (i ≡ j → ⊥) → (i ≡ a → s ≡ b) → (i ≡ b → s ≡ a) → ((i ≡ a → ⊥) → (i ≡ b → ⊥) → s ≡ i)
    → (j ≡ a → t ≡ b) → (j ≡ b → t ≡ a) → ((j ≡ a → ⊥) → (j ≡ b → ⊥) → t ≡ j) → s ≡ t → ⊥
apart a b i j s t ne p q r x y z e = grind arith

module _ {X : Type 0} (R : X → X → Type 0) (flips : (x y : X) → R x y → R y x) where
  either_way : (xs : List X) (s t : ℕ) (d : X) → AllPairs R xs → (s ≡ t → ⊥) → s < length xs → t < length xs → R (get_or xs s d) (get_or xs t d)
  either_way xs s t d h ne ls lt = by (cases_lt s t)
    where
      by : (s < t) ⊎ (t ≤ s) → R (get_or xs s d) (get_or xs t d)
      by (inl l) = h s t d l lt
      by (inr l) = flips (get_or xs t d) (get_or xs s d) (h t s d (omega arith) ls)

  -- what holds of each two elements, whichever is first, holds in another order
  pub pairs_rearranged : (xs ys : List X) → IsPermutation xs ys → AllPairs R xs → AllPairs R ys
  pairs_rearranged xs ys p start = IsPermutation-keeps xs (AllPairs R) start (λ l a b la lb h i j d ij lj.
      let n = length l in
      let long = length-swap l a b in
      let sw = swapped_from_swap l (swap l a b) a b d la lb refl in
      let u = moved _ _ a b n sw la lb i (omega arith) in
      let v = moved _ _ a b n sw la lb j (omega arith) in
      let there = either_way l u.0 v.0 d h (apart a b i j u.0 v.0 (λ e. omega arith) u.3 u.4 u.5 v.3 v.4 v.5) u.1 v.1 in
      rw (u.2, v.2) there) ys p

-- ---- the order of texts

not_behind : (xs ys : List ℕ) → is_lt (slice_cmp nat_cmp ys xs) ≡ false → IsNotBehind xs ys
not_behind xs ys h = by (slice_cmp nat_cmp xs ys) (nat_list_cmp_total.antisymm ys xs)
  where
    by : (o : Ordering) → slice_cmp nat_cmp ys xs ≡ ordering_reverse o → IsTrue (is_le o)
    by Less e = search rules
    by Equal e = search rules
    by Greater e = let bad : true ≡ false = sym (ap is_lt e) ∙ h in cc

-- of two texts that differ the one that isn't behind is before the other
pub strictly_before : (xs ys : List ℕ) → IsNotBehind xs ys → (xs ≡ ys → ⊥) → IsBefore xs ys
strictly_before xs ys h differ = by (slice_cmp nat_cmp xs ys) refl
  where
    by : (o : Ordering) → slice_cmp nat_cmp xs ys ≡ o → IsBefore xs ys
    by Less e = subst (λ o. IsTrue (is_lt o)) (sym e) (search rules)
    by Equal e = absurd (differ (exact_bytes xs ys e))
    by Greater e = let g : IsTrue (is_le Greater) = subst (λ o. IsTrue (is_le o)) e h in absurd (search (rules, g))

module _ {X : Type 0} (text : X → List ℕ) where
  -- what `sort_unstable_by` says where each call compares the texts of the two elements
  pub texts_ascend : {F : Type 0} {g : Mut F (Bor X × (Bor X × Unit {0})) Ordering} {f : F} (xs : List X)
      → ((lt : X → X → Bool) → IsStrictWeakOrder lt → ComparesAs g lt f → IsSortedBy lt xs)
      → ((a : Bor X × (Bor X × Unit {0})) (r : Ordering) (f' : F) → Called g f a r f' → (r ≡ slice_cmp nat_cmp (text a.0.now) (text a.1.0.now)) × (f' ≡ f))
      → AllPairs (λ x y. IsNotBehind (text x) (text y)) xs
  texts_ascend {g = g} {f = f} xs up h i j d less lt =
      let lower : X → X → Bool = λ x y. is_lt (slice_cmp nat_cmp (text x) (text y)) in
      let order : IsStrictWeakOrder lower = ranks_by nat_list_cmp_total text in
      let sorted : IsSortedBy lower xs = up lower order
      (always_returns_same g (λ a r. is_lt r ≡ lower a.0.now a.1.0.now) f (λ a r f' k. (ap is_lt (h a r f' k).0, (h a r f' k).1))) in
      not_behind (text (get_or xs i d)) (text (get_or xs j d)) (sorted_far lower order xs sorted i j d (omega arith) lt)

-- ---- elements, each with its text

some_of : {L : Type 0} (j : ℕ) (ls : List L) → j < length ls → L
some_of j [] within = let no : ⊥ = omega arith in absurd no
some_of j (l ∷ ls) within = l

module _ {L X : Type 0} (R : List ℕ → List ℕ → Type 0) (element : L → X) (text : L → List ℕ) (text_of : X → List ℕ) where
  -- where each has its text, the elements stand in the order of the texts as those do
  pub elements_ascend : (ls : List L) → All (λ l. text l ≡ text_of (element l)) ls → AllPairs (λ a b. R (text a) (text b)) ls
      → AllPairs (λ a b. R (text_of a) (text_of b)) (map element ls)
  elements_ascend ls texts ascend i j d less within =
      let long : length (map element ls) ≡ length ls = length-map ls element in
      let lt : j < length ls = omega (arith, long) in
      let l : L = some_of j ls lt in
      let first : get_or (map element ls) i d ≡ element (get_or ls i l) = get_or-map element ls i l d (omega (arith, less, lt)) in
      let second : get_or (map element ls) j d ≡ element (get_or ls j l) = get_or-map element ls j l d lt in
      subst (λ t. R (text_of t) (text_of (get_or (map element ls) j d))) (sym first)
      (subst (λ t. R (text_of (element (get_or ls i l))) (text_of t)) (sym second)
      (subst (λ t. R t (text_of (element (get_or ls j l)))) (texts i l (omega (arith, less, lt)))
      (subst (λ t. R (text (get_or ls i l)) t) (texts j l lt) (ascend i j l less lt))))
