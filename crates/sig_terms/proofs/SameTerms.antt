-- The test of two terms passes exactly where they are equal.
use Rattle.std.proofs.Common.{◌≡◌, ℕ, suc, List, [], ◌∷◌, map, Bool, true, ◌&&◌, ◌==◌, refl, ap, subst, sym, ◌∙◌, length, arith}
use Rattle.std.specs.Prelude.{IsTrue, ◌↔◌}
use Rattle.std.proofs.lemmas.Bool.{and_parts}
use Rattle.std.proofs.lemmas.Bool.Decides.{Decides-int_eq, Decides-eqb, Decides-and}
use Rattle.std.proofs.lemmas.Slice.Eq.{bytes_eq-Decides}
use Rattle.std.proofs.lemmas.List.{length-map}
use Rattle.sig_terms.specs.TermTest.{same_term, same_layer, each_same, same_list}
use Rattle.sig_terms.specs.declared.pid.Pid.{Pid}
use Rattle.sig_terms.specs.declared.reference.Ref.{Ref}
use Rattle.sig_terms.specs.declared.term.Term.{Term, out-Term, roll-Term, map-Term}
use Rattle.sig_terms.specs.declared.term.Term.TheOpen.{Term-F}
use Rattle.sig_terms.specs.declared.term.Term.TheOpen as layer
use Rattle.sig_terms.specs.declared.term.Term.TheFolds.{fold-roll-Term, ind-Term}
use Rattle.sig_terms.specs.declared.term.Term.TheViews.{out-roll-Term}

abbrev test : Term-F (Term → Bool) → Term → Bool
test s t = same_layer s (out-Term t)

pub same_at : (x z : Term-F Term) → same_term (roll-Term x) (roll-Term z) ≡ same_layer (map-Term Term (Term → Bool) same_term x) z
same_at x z = ap (λ f. f (roll-Term z)) (fold-roll-Term (Term → Bool) test x) ∙ ap (same_layer (map-Term Term (Term → Bool) same_term x)) (out-roll-Term z)

-- a term passes beside itself
abbrev IsSame : Term → Type 0
IsSame t = same_term t t ≡ true

each_self : (ts : List ((t : Term) × IsSame t)) → each_same (map same_term (map (λ e. e.0) ts)) (map (λ e. e.0) ts) ≡ true
each_self [] = refl
each_self (e ∷ ts) = rw e.1 (each_self ts)

list_self : (ts : List ((t : Term) × IsSame t)) → same_list (map same_term (map (λ e. e.0) ts)) (map (λ e. e.0) ts) ≡ true
list_self ts = rw (length-map (map (λ e. e.0) ts) same_term, (Decides-eqb (length (map (λ e. e.0) ts)) (length (map (λ e. e.0) ts))).1 refl) (each_self ts)

self_step : (y : Term-F ((t : Term) × IsSame t)) → IsSame (roll-Term (map-Term ((t : Term) × IsSame t) Term (λ e. e.0) y))
self_step (layer.Int n) = same_at (layer.Int n) (layer.Int n) ∙ (Decides-int_eq n n).1 refl
self_step (layer.Atom a) = same_at (layer.Atom a) (layer.Atom a) ∙ (bytes_eq-Decides a a).1 refl
self_step (layer.Pid p) = same_at (layer.Pid p) (layer.Pid p) ∙ (Decides-eqb p.0 p.0).1 refl
self_step (layer.Ref r) = same_at (layer.Ref r) (layer.Ref r) ∙ (Decides-and _ _ (Decides-eqb r.owner.0 r.owner.0) (Decides-eqb r.serial r.serial)).1 (refl, refl)
self_step (layer.Tuple ts) = let us : List Term = map (λ e. e.0) ts in same_at (layer.Tuple us) (layer.Tuple us) ∙ list_self ts
self_step (layer.List ts) = let us : List Term = map (λ e. e.0) ts in same_at (layer.List us) (layer.List us) ∙ list_self ts

pub same_self : (t : Term) → IsSame t
same_self = ind-Term IsSame (λ x y is. subst (λ z. IsSame (roll-Term z)) is (self_step y))

-- terms that pass are equal
abbrev IsApart : Term → Type 0
IsApart t = (u : Term) → same_term t u ≡ true → t ≡ u

abbrev Apart : Type 0
Apart = (t : Term) × IsApart t

list_apart : (ts : List Apart) (us : List Term) → same_list (map same_term (map (λ e. e.0) ts)) us ≡ true → map (λ e. e.0) ts ≡ us
list_apart [] [] h = refl
list_apart [] (u ∷ us) h = absurd (omega (arith, (Decides-eqb 0 (suc (length us))).0 (and_parts (0 == suc (length us)) true h).0))
list_apart (t ∷ ts) [] h =
    let fs : List (Term → Bool) = map same_term (map (λ e. e.0) ts) in
    absurd (omega (arith, (Decides-eqb (suc (length fs)) 0).0 (and_parts (suc (length fs) == 0) true h).0))
list_apart (t ∷ ts) (u ∷ us) h =
    let fs : List (Term → Bool) = map same_term (map (λ e. e.0) ts) in
    let parts = and_parts (suc (length fs) == suc (length us)) (same_term t.0 u && each_same fs us) h in
    let each = and_parts (same_term t.0 u) (each_same fs us) parts.1 in
    let lengths : length fs ≡ length us = omega (arith, (Decides-eqb (suc (length fs)) (suc (length us))).0 parts.0) in
    let rest : same_list fs us ≡ true = (Decides-and _ _ (Decides-eqb (length fs) (length us)) (λ h. h, λ h. h)).1 (lengths, each.1) in
    rw (t.1 u each.0, list_apart ts us rest) refl

pid_apart : (a b : Pid) → a.0 ≡ b.0 → a ≡ b
pid_apart a b e = let made : ℕ → Pid = λ n. record { 0 = n } in ap made e

pub ref_apart : (a b : Ref) → a.owner.0 ≡ b.owner.0 → a.serial ≡ b.serial → a ≡ b
ref_apart a b e f =
    let owned : ℕ → Ref = λ n. record { owner = record { 0 = n }; serial = a.serial } in
    let numbered : ℕ → Ref = λ n. record { owner = b.owner; serial = n } in
    ap owned e ∙ ap numbered f

layer_apart : (y : Term-F Apart) (z : Term-F Term) → same_layer (map-Term Term (Term → Bool) same_term (map-Term Apart Term (λ e. e.0) y)) z ≡ true → map-Term Apart Term (λ e. e.0) y ≡ z
layer_apart (layer.Int a) (layer.Int b) h = ap layer.Int ((Decides-int_eq a b).0 h)
layer_apart (layer.Atom a) (layer.Atom b) h = ap layer.Atom ((bytes_eq-Decides a b).0 h)
layer_apart (layer.Pid a) (layer.Pid b) h = ap layer.Pid (pid_apart a b ((Decides-eqb a.0 b.0).0 h))
layer_apart (layer.Ref a) (layer.Ref b) h =
    let parts = (Decides-and _ _ (Decides-eqb a.owner.0 b.owner.0) (Decides-eqb a.serial b.serial)).0 h in
    ap layer.Ref (ref_apart a b parts.0 parts.1)
layer_apart (layer.Tuple ts) (layer.Tuple us) h = ap layer.Tuple (list_apart ts us h)
layer_apart (layer.List ts) (layer.List us) h = ap layer.List (list_apart ts us h)
layer_apart _ _ h = absurd cc

apart_step : (y : Term-F Apart) (u : Term) → same_term (roll-Term (map-Term Apart Term (λ e. e.0) y)) u ≡ true → roll-Term (map-Term Apart Term (λ e. e.0) y) ≡ u
apart_step y =
    let x : Term-F Term = map-Term Apart Term (λ e. e.0) y in
    ind-Term (λ u. same_term (roll-Term x) u ≡ true → roll-Term x ≡ u) (λ z _ _ h. ap roll-Term (layer_apart y z (sym (same_at x z) ∙ h)))

pub same_apart : (t : Term) → IsApart t
same_apart = ind-Term IsApart (λ x y is. subst (λ z. IsApart (roll-Term z)) is (apart_step y))

pub test_is_equality : (t u : Term) → IsTrue (same_term t u) ↔ (t ≡ u)
test_is_equality t u = (same_apart t u, λ e. subst (λ v. same_term t v ≡ true) e (same_self t))
