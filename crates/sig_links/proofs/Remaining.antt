-- The active peers after the link to one of them has ended.
use Rattle.std.proofs.Common.{◌≡◌, ℕ, Bool, true, false, not, cond, List, [], ◌∷◌, map, refl, sym, ap, ◌∙◌, None}
use Rattle.std.specs.List.{filter}
use Rattle.std.specs.Ordering.{nat_cmp, eq_by_cmp, is_eq}
use Rattle.std.specs.Cmp.{nat_cmp_total, alike_right, eq_by_cmp_equiv}
use Rattle.std.specs.FinMap.{FinMap, get, entries, keys, remove, from_sorted, find, get-entries, get-remove, get-from_sorted, entries-from_sorted, entries_sorted, same_map, nat_cmp-IsAntisymmetric}
use Rattle.std.specs.FinMap.Entries.{where_key, is_sorted-where_key, find-where_key}
use Rattle.sig_kinds.specs.LinkRules.{LinkState, active_after, deactivated}

-- whether a peer is another than k
abbrev pub other_than : ℕ → ℕ → Bool
other_than k x = not (eq_by_cmp nat_cmp k x)

turned : {A : Type 0} (b : Bool) (x y : A) → cond (not b) x y ≡ cond b y x
turned true x y = refl
turned false x y = refl

module _ {X : Type 0} where
  keys-filter : (p : ℕ → Bool) (es : List (ℕ × X)) → map (λ e. e.0) (filter (λ e. p e.0) es) ≡ filter p (map (λ e. e.0) es)
  keys-filter p [] = refl
  keys-filter p (e ∷ es) = elim (p e.0) as (λ b. map (λ (e : ℕ × X). e.0) (cond b (e ∷ filter (λ e. p e.0) es) (filter (λ e. p e.0) es))
      ≡ cond b (e.0 ∷ filter p (map (λ e. e.0) es)) (filter p (map (λ e. e.0) es)))
      [ true ↦ ap (λ ks. e.0 ∷ ks) (keys-filter p es) | false ↦ keys-filter p es ]

  module _ (m : FinMap nat_cmp X) (k : ℕ) where
    abbrev left : List (ℕ × X)
    left = where_key nat_cmp (other_than k) (entries m)

    get-left : (q : ℕ) → get (remove m k) q ≡ find nat_cmp q left
    get-left q =
        get-remove nat_cmp_total m k q
        ∙ ap (λ b. cond b None (get m q)) ((eq_by_cmp_equiv nat_cmp_total).symm q k)
        ∙ sym (turned (eq_by_cmp nat_cmp k q) (get m q) None)
        ∙ ap (λ o. cond (other_than k q) o None) (get-entries m q)
        ∙ sym (find-where_key nat_cmp (other_than k) q (λ x t. ap (λ r. not (is_eq r)) (sym (alike_right nat_cmp_total q x k t))) (entries m))

    keys-remove : keys (remove m k) ≡ filter (other_than k) (keys m)
    keys-remove =
        let in_order = is_sorted-where_key nat_cmp (other_than k) (entries m) (entries_sorted m) in
        ap (λ n. keys n) (same_map nat_cmp_total nat_cmp-IsAntisymmetric (remove m k) (from_sorted left) (λ q. get-left q ∙ sym (get-from_sorted nat_cmp left q in_order)))
        ∙ ap (map (λ (e : ℕ × X). e.0)) (entries-from_sorted nat_cmp left in_order)
        ∙ keys-filter (other_than k) (entries m)

pub left_active : (links : LinkState) (k : ℕ) → active_after (deactivated links k) None ≡ filter (other_than k) (active_after links None)
left_active links k = keys-remove links.active k
