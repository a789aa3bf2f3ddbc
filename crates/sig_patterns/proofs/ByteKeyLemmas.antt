-- A sorted map from keys of bytes finds by the bytes of the key what was put there last.
use Rattle.std.proofs.Common.{◌≡◌, ℕ, List, [], ◌∷◌, map, refl, sym, ap, ◌∙◌, Some, cond}
use Rattle.std.specs.declared.cmp.Ordering.TheVariants.{Less, Equal, Greater}
use Rattle.std.specs.Ordering.{nat_cmp, eq_by_cmp, match_ordering}
use Rattle.std.specs.Cmp.Lexicographic.{slice_cmp, nat_list_cmp_total}
use Rattle.std.specs.FinMap.{find, put}
use Rattle.std.specs.FinMap.Entries.{find-put, by_order}
use Rattle.std.specs.Map.{lookup}
use Rattle.std.specs.BTreeMap.{is_at, insert_entry}
use Rattle.std.specs.declared.vec.Vec.{Vec}
use Rattle.std.specs.declared.alloc.Global.{Global}

abbrev with_bytes : {V : Type 0} → List (Vec ℕ Global × V) → List (List ℕ × V)
with_bytes = map (λ e. (e.0.items, e.1))

pub find-with_bytes : {V : Type 0} (q : List ℕ) (es : List (Vec ℕ Global × V)) → find (slice_cmp nat_cmp) q (with_bytes es) ≡ lookup (is_at (λ k. slice_cmp nat_cmp q k.items)) es
find-with_bytes q [] = refl
find-with_bytes q (e ∷ es) = ap (cond (eq_by_cmp (slice_cmp nat_cmp) q e.0.items) (Some e.1)) (find-with_bytes q es)

put-with_bytes : {V : Type 0} (k : Vec ℕ Global) (v : V) (es : List (Vec ℕ Global × V)) → with_bytes (insert_entry (λ x y. slice_cmp nat_cmp x.items y.items) es k v) ≡ put (slice_cmp nat_cmp) k.items v (with_bytes es)
put-with_bytes k v [] = refl
put-with_bytes k v (e ∷ es) =
    elim (slice_cmp nat_cmp k.items e.0.items) as (λ o. with_bytes (match_ordering o ((k, v) ∷ e ∷ es) ((e.0, v) ∷ es) (e ∷ insert_entry (λ x y. slice_cmp nat_cmp x.items y.items) es k v))
    ≡ by_order o ((k.items, v) ∷ with_bytes (e ∷ es)) ((e.0.items, v) ∷ with_bytes es) ((e.0.items, e.1) ∷ put (slice_cmp nat_cmp) k.items v (with_bytes es))) [
      | Less ↦ refl
      | Equal ↦ refl
      | Greater ↦ ap (λ rest. (e.0.items, e.1) ∷ rest) (put-with_bytes k v es)
    ]

pub lookup-insert_entry : {V : Type 0} (q : List ℕ) (k : Vec ℕ Global) (v : V) (es : List (Vec ℕ Global × V)) →
    lookup (is_at (λ x. slice_cmp nat_cmp q x.items)) (insert_entry (λ x y. slice_cmp nat_cmp x.items y.items) es k v)
    ≡ cond (eq_by_cmp (slice_cmp nat_cmp) q k.items) (Some v) (lookup (is_at (λ x. slice_cmp nat_cmp q x.items)) es)
lookup-insert_entry q k v es =
    sym (find-with_bytes q (insert_entry (λ x y. slice_cmp nat_cmp x.items y.items) es k v))
    ∙ ap (find (slice_cmp nat_cmp) q) (put-with_bytes k v es)
    ∙ find-put (slice_cmp nat_cmp) nat_list_cmp_total q k.items v (with_bytes es)
    ∙ ap (cond (eq_by_cmp (slice_cmp nat_cmp) q k.items) (Some v)) (find-with_bytes q es)
