-- A binary search ends at the key or at the gap for it, and an edit there is the edit of a map.
use Rattle.std.proofs.Common.{◌≡◌, ℕ, zero, suc, ◌<◌, ◌≤◌, Bool, true, false, not, cond, ◌&&◌, T, List, [], ◌∷◌, ◌++◌, map, length, get_or, take, drop, set, Some, None, Result, Ok, Err, MatchResult, Ordering, refl, sym, ap, subst, ◌∙◌, arith}
use Rattle.std.specs.List.Sorted.{IsBinarySearchResult}
use Rattle.std.specs.Ordering.{nat_cmp, is_lt, is_eq, eq_by_cmp}
use Rattle.std.specs.declared.cmp.Ordering.TheVariants.{Less, Equal, Greater}
use Rattle.std.specs.Cmp.{nat_cmp_total, nat_cmp_is, ranked, eq_by_cmp_equiv}
use Rattle.std.specs.FinMap.{insert, remove, from_entries, find, put, get-insert, get-remove, get-from_entries, same_map, nat_cmp-IsAntisymmetric}
use Rattle.std.specs.FinMap.Entries.{below_all, where_key, by_order, is_sorted-put, is_sorted-where_key, find-put, find-where_key}
use Rattle.std.proofs.lemmas.List.{length-map}
use Rattle.std.proofs.lemmas.List.Sorted.{searched}
use Rattle.sig_links.specs.Places.{IsAt, IsGapFor}
use Rattle.sig_links.specs.Tables.{IsInOrder}

both : (a b : Bool) → T a → T b → T (a && b)
both true b p q = q
both false b p q = p

pub first : (a b : Bool) → T (a && b) → T a
first true b p = tt
first false b p = p

pub second : (a b : Bool) → T (a && b) → T b
second true b p = p
second false b p = absurd p

is_less : (r : Ordering) → T (is_lt r) → r ≡ Less
is_less Less p = refl
is_less Equal p = absurd p
is_less Greater p = absurd p

pub is_equal : (r : Ordering) → is_eq r ≡ true → r ≡ Equal
is_equal Less p = cc
is_equal Equal p = refl
is_equal Greater p = cc

turned : {A : Type 0} (b : Bool) (x y : A) → cond (not b) x y ≡ cond b y x
turned true x y = refl
turned false x y = refl

pub lower : (x y : ℕ) → T (is_lt (nat_cmp x y)) → x < y
lower x y h = ranked x y Less (sym (is_less (nat_cmp x y) h))

lower_tells : (x y : ℕ) → x < y → T (is_lt (nat_cmp x y))
lower_tells x y l = subst (λ r. T (is_lt r)) (nat_cmp_is x y Less l) tt

-- what passes where the entry at a key is taken out
abbrev other_than : ℕ → ℕ → Bool
other_than k x = not (eq_by_cmp nat_cmp k x)

module _ {X : Type 0} where
  abbrev keys_of : List (ℕ × X) → List ℕ
  keys_of es = map (λ e. e.0) es

  each_above : (k : ℕ) (es : List (ℕ × X)) → T (below_all nat_cmp k es) → (j : ℕ) → j < length (keys_of es) → k < get_or (keys_of es) j 0
  each_above k [] h j l = absurd (omega arith)
  each_above k (e ∷ es) h zero l = lower k e.0 (first _ _ h)
  each_above k (e ∷ es) h (suc j) l = each_above k es (second _ _ h) j (omega arith)

  all_above : (k : ℕ) (es : List (ℕ × X)) → ((j : ℕ) → j < length (keys_of es) → k < get_or (keys_of es) j 0) → T (below_all nat_cmp k es)
  all_above k [] h = tt
  all_above k (e ∷ es) h = both _ _ (lower_tells k e.0 (h 0 (omega arith))) (all_above k es (λ j l. h (suc j) (omega arith)))

  rises : (es : List (ℕ × X)) → IsInOrder es → (i j : ℕ) → i ≤ j → j < length (keys_of es) → get_or (keys_of es) i 0 ≤ get_or (keys_of es) j 0
  rises [] order i j le l = absurd (omega arith)
  rises (e ∷ es) order zero zero le l = omega arith
  rises (e ∷ es) order zero (suc j) le l = let above = each_above e.0 es (first _ _ order) j (omega arith) in omega arith
  rises (e ∷ es) order (suc i) zero le l = absurd (omega arith)
  rises (e ∷ es) order (suc i) (suc j) le l = rises es (second _ _ order) i j (omega arith) (omega arith)

  pub is_at : (k : ℕ) (es : List (ℕ × X)) (i : ℕ) → IsInOrder es → i < length (keys_of es) → get_or (keys_of es) i 0 ≡ k → IsAt k es i
  is_at k [] i order l is = absurd (omega arith)
  is_at k (e ∷ es) zero order l is = (is, subst (λ x. T (below_all nat_cmp x es)) is (first _ _ order))
  is_at k (e ∷ es) (suc i) order l is =
      let above = each_above e.0 es (first _ _ order) i (omega arith) in
      (omega arith, is_at k es i (second _ _ order) (omega arith) is)

  is_gap : (k : ℕ) (es : List (ℕ × X)) (i : ℕ) → i ≤ length (keys_of es) → ((j : ℕ) → j < i → get_or (keys_of es) j 0 < k) → ((j : ℕ) → i ≤ j → j < length (keys_of es) → k < get_or (keys_of es) j 0) → IsGapFor k es i
  is_gap k es zero l before behind = all_above k es (λ j within. behind j (omega arith) within)
  is_gap k [] (suc i) l before behind = absurd (omega arith)
  is_gap k (e ∷ es) (suc i) l before behind =
      (before 0 (omega arith), is_gap k es i (omega arith) (λ j below. before (suc j) (omega arith)) (λ j at within. behind (suc j) (omega arith) (omega arith)))

  -- where a binary search among the keys ends
  pub found_place : (k : ℕ) (es : List (ℕ × X)) (r : Result ℕ ℕ) → IsInOrder es → IsBinarySearchResult (λ y. nat_cmp y k) (keys_of es) r → MatchResult r (IsAt k es) (IsGapFor k es)
  found_place k es (Ok i) order h =
      let found = searched (keys_of es) k (Ok i) h (rises es order) in
      is_at k es i order found.0 found.1
  found_place k es (Err i) order h =
      let parted = searched (keys_of es) k (Err i) h (rises es order) in
      is_gap k es i parted.0 parted.1 parted.2

  find_above : (k : ℕ) (es : List (ℕ × X)) → T (below_all nat_cmp k es) → find nat_cmp k es ≡ None
  find_above k [] h = refl
  find_above k (e ∷ es) h = ap (λ r. cond (is_eq r) (Some e.1) (find nat_cmp k es)) (is_less _ (first _ _ h)) ∙ find_above k es (second _ _ h)

  pub find-gap : (k : ℕ) (es : List (ℕ × X)) (i : ℕ) → IsGapFor k es i → find nat_cmp k es ≡ None
  find-gap k es zero gap = find_above k es gap
  find-gap k [] (suc i) gap = absurd gap
  find-gap k (e ∷ es) (suc i) gap = ap (λ r. cond (is_eq r) (Some e.1) (find nat_cmp k es)) (sym (nat_cmp_is k e.0 Greater gap.0)) ∙ find-gap k es i gap.1

  pub find-at : (k : ℕ) (es : List (ℕ × X)) (i : ℕ) (d : ℕ × X) → IsAt k es i → find nat_cmp k es ≡ Some (get_or es i d).1
  find-at k [] i d at = absurd at
  find-at k (e ∷ es) zero d at = ap (λ r. cond (is_eq r) (Some e.1) (find nat_cmp k es)) (sym (nat_cmp_is k e.0 Equal (sym at.0)))
  find-at k (e ∷ es) (suc i) d at = ap (λ r. cond (is_eq r) (Some e.1) (find nat_cmp k es)) (sym (nat_cmp_is k e.0 Greater at.0)) ∙ find-at k es i d at.1

  put-gap : (k : ℕ) (v : X) (es : List (ℕ × X)) (i : ℕ) → IsGapFor k es i → put nat_cmp k v es ≡ take i es ++ (k, v) ∷ drop i es
  put-gap k v [] zero gap = refl
  put-gap k v (e ∷ es) zero gap = ap (λ r. by_order r ((k, v) ∷ e ∷ es) ((e.0, v) ∷ es) (e ∷ put nat_cmp k v es)) (is_less _ (first _ _ gap))
  put-gap k v [] (suc i) gap = absurd gap
  put-gap k v (e ∷ es) (suc i) gap =
      ap (λ r. by_order r ((k, v) ∷ e ∷ es) ((e.0, v) ∷ es) (e ∷ put nat_cmp k v es)) (sym (nat_cmp_is k e.0 Greater gap.0))
      ∙ ap (λ rest. e ∷ rest) (put-gap k v es i gap.1)

  put-at : (k : ℕ) (v : X) (es : List (ℕ × X)) (i : ℕ) → IsAt k es i → put nat_cmp k v es ≡ set es i (k, v)
  put-at k v [] i at = absurd at
  put-at k v (e ∷ es) zero at =
      ap (λ r. by_order r ((k, v) ∷ e ∷ es) ((e.0, v) ∷ es) (e ∷ put nat_cmp k v es)) (sym (nat_cmp_is k e.0 Equal (sym at.0)))
      ∙ ap (λ x. (x, v) ∷ es) at.0
  put-at k v (e ∷ es) (suc i) at =
      ap (λ r. by_order r ((k, v) ∷ e ∷ es) ((e.0, v) ∷ es) (e ∷ put nat_cmp k v es)) (sym (nat_cmp_is k e.0 Greater at.0))
      ∙ ap (λ rest. e ∷ rest) (put-at k v es i at.1)

  where_above : (k : ℕ) (es : List (ℕ × X)) → T (below_all nat_cmp k es) → where_key nat_cmp (other_than k) es ≡ es
  where_above k [] h = refl
  where_above k (e ∷ es) h =
      ap (λ r. cond (not (is_eq r)) (e ∷ where_key nat_cmp (other_than k) es) (where_key nat_cmp (other_than k) es)) (is_less _ (first _ _ h))
      ∙ ap (λ rest. e ∷ rest) (where_above k es (second _ _ h))

  where-at : (k : ℕ) (es : List (ℕ × X)) (i : ℕ) → IsAt k es i → where_key nat_cmp (other_than k) es ≡ take i es ++ drop (suc i) es
  where-at k [] i at = absurd at
  where-at k (e ∷ es) zero at =
      ap (λ r. cond (not (is_eq r)) (e ∷ where_key nat_cmp (other_than k) es) (where_key nat_cmp (other_than k) es)) (sym (nat_cmp_is k e.0 Equal (sym at.0)))
      ∙ where_above k es at.1
  where-at k (e ∷ es) (suc i) at =
      ap (λ r. cond (not (is_eq r)) (e ∷ where_key nat_cmp (other_than k) es) (where_key nat_cmp (other_than k) es)) (sym (nat_cmp_is k e.0 Greater at.0))
      ∙ ap (λ rest. e ∷ rest) (where-at k es i at.1)

  from_entries-put : (k : ℕ) (v : X) (es : List (ℕ × X)) → from_entries {R = nat_cmp} (put nat_cmp k v es) ≡ insert (from_entries es) k v
  from_entries-put k v es = same_map nat_cmp_total nat_cmp-IsAntisymmetric _ _ (λ q.
      get-from_entries nat_cmp_total (put nat_cmp k v es) q
      ∙ find-put nat_cmp nat_cmp_total q k v es
      ∙ sym (get-insert nat_cmp_total (from_entries es) k v q ∙ ap (cond (eq_by_cmp nat_cmp q k) (Some v)) (get-from_entries nat_cmp_total es q)))

  from_entries-where : (k : ℕ) (es : List (ℕ × X)) → from_entries {R = nat_cmp} (where_key nat_cmp (other_than k) es) ≡ remove (from_entries es) k
  from_entries-where k es = same_map nat_cmp_total nat_cmp-IsAntisymmetric _ _ (λ q.
      get-from_entries nat_cmp_total (where_key nat_cmp (other_than k) es) q
      ∙ find-where_key nat_cmp (other_than k) q (λ x same. ap (other_than k) (sym (nat_cmp-IsAntisymmetric q x same))) es
      ∙ turned (eq_by_cmp nat_cmp k q) (find nat_cmp q es) None
      ∙ ap (λ b. cond b None (find nat_cmp q es)) ((eq_by_cmp_equiv nat_cmp_total).symm k q)
      ∙ sym (get-remove nat_cmp_total (from_entries es) k q ∙ ap (cond (eq_by_cmp nat_cmp q k) None) (get-from_entries nat_cmp_total es q)))

  -- to take out a key that no entry has changes nothing
  pub from_entries-absent : (k : ℕ) (es : List (ℕ × X)) (i : ℕ) → IsGapFor k es i → from_entries {R = nat_cmp} es ≡ remove (from_entries es) k
  from_entries-absent k es i gap = same_map nat_cmp_total nat_cmp-IsAntisymmetric _ _ (λ q.
      get-from_entries nat_cmp_total es q
      ∙ elim (eq_by_cmp nat_cmp q k) as (λ b. eq_by_cmp nat_cmp q k ≡ b → find nat_cmp q es ≡ cond b None (find nat_cmp q es)) [
        | true ↦ λ is. ap (λ x. find nat_cmp x es) (nat_cmp-IsAntisymmetric q k (is_equal _ is)) ∙ find-gap k es i gap
        | false ↦ λ _. refl
      ] refl
      ∙ sym (get-remove nat_cmp_total (from_entries es) k q ∙ ap (cond (eq_by_cmp nat_cmp q k) None) (get-from_entries nat_cmp_total es q)))

  -- a new entry in its gap
  pub added-order : (k : ℕ) (v : X) (es : List (ℕ × X)) (i : ℕ) → IsInOrder es → IsGapFor k es i → IsInOrder (take i es ++ (k, v) ∷ drop i es)
  added-order k v es i order gap = subst IsInOrder (put-gap k v es i gap) (is_sorted-put nat_cmp nat_cmp_total k v es order)

  pub added : (k : ℕ) (v : X) (es : List (ℕ × X)) (i : ℕ) → IsGapFor k es i → from_entries {R = nat_cmp} (take i es ++ (k, v) ∷ drop i es) ≡ insert (from_entries es) k v
  added k v es i gap = ap (λ entries. from_entries {R = nat_cmp} entries) (sym (put-gap k v es i gap)) ∙ from_entries-put k v es

  -- another value at a key
  pub replaced-order : (k : ℕ) (v : X) (es : List (ℕ × X)) (i : ℕ) → IsInOrder es → IsAt k es i → IsInOrder (set es i (k, v))
  replaced-order k v es i order at = subst IsInOrder (put-at k v es i at) (is_sorted-put nat_cmp nat_cmp_total k v es order)

  pub replaced : (k : ℕ) (v : X) (es : List (ℕ × X)) (i : ℕ) → IsAt k es i → from_entries {R = nat_cmp} (set es i (k, v)) ≡ insert (from_entries es) k v
  replaced k v es i at = ap (λ entries. from_entries {R = nat_cmp} entries) (sym (put-at k v es i at)) ∙ from_entries-put k v es

  -- an entry less
  pub removed-order : (k : ℕ) (es : List (ℕ × X)) (i : ℕ) → IsInOrder es → IsAt k es i → IsInOrder (take i es ++ drop (suc i) es)
  removed-order k es i order at = subst IsInOrder (where-at k es i at) (is_sorted-where_key nat_cmp (other_than k) es order)

  pub removed : (k : ℕ) (es : List (ℕ × X)) (i : ℕ) → IsAt k es i → from_entries {R = nat_cmp} (take i es ++ drop (suc i) es) ≡ remove (from_entries es) k
  removed k es i at = ap (λ entries. from_entries {R = nat_cmp} entries) (sym (where-at k es i at)) ∙ from_entries-where k es

  key_at : (es : List (ℕ × X)) (i : ℕ) (d : ℕ × X) → (get_or es i d).0 ≡ get_or (keys_of es) i d.0
  key_at [] i d = refl
  key_at (e ∷ es) zero d = refl
  key_at (e ∷ es) (suc i) d = key_at es i d

-- a binary search by the key is one among the keys
pub by_keys : (k : ℕ) (es : List (ℕ × ℕ)) (r : Result ℕ ℕ) → IsBinarySearchResult (λ e. nat_cmp e.0 k) es r → IsBinarySearchResult (λ y. nat_cmp y k) (keys_of es) r
by_keys k es (Ok i) h = λ d. subst (λ y. nat_cmp y k ≡ Equal) (key_at es i (d, 0)) (h (d, 0))
by_keys k es (Err i) h = λ up.
    let many = length-map es (λ (e : ℕ × ℕ). e.0) in
    let parted = h (λ a b d le l. rw (key_at es a d, key_at es b d) (up a b d.0 le (omega arith))) in (
      λ j d low high. subst (λ y. nat_cmp y k ≡ Less) (key_at es j (d, 0)) (parted.0 j (d, 0) low high),
      λ j d low high. subst (λ y. nat_cmp y k ≡ Greater) (key_at es j (d, 0)) (parted.1 j (d, 0) low (omega arith)),
    )
