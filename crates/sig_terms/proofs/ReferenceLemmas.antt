-- The order of references is total, and tells apart what their equality does.
use Rattle.std.proofs.Common.{◌≡◌, ◌==◌, Bool, true, sym, ap, subst, ◌∙◌}
use Rattle.std.proofs.lemmas.Bool.Decides.{Decides-and, Decides-eqb}
use Rattle.std.specs.Cmp.{IsEquivalence, IsTotalOrder, on_total, then_total, both_tied, unsigned_ties, nat_cmp_total, eq_by_cmp_equiv}
use Rattle.std.specs.Ordering.{is_eq, eq_by_cmp}
use Rattle.std.specs.FinMap.{IsAntisymmetric}
use Rattle.sig_terms.specs.declared.reference.Ref.{Ref}
use Rattle.sig_terms.specs.Nodes.{same_ref}
use Rattle.sig_terms.specs.References.{ref_cmp}
use Rattle.sig_terms.proofs.SameTerms.{ref_apart}

pub ref_cmp_total : IsTotalOrder ref_cmp
ref_cmp_total = then_total (on_total (λ (r : Ref). r.owner.0) nat_cmp_total) (on_total (λ (r : Ref). r.serial) nat_cmp_total)

pub ref_ties : (a b : Ref) → same_ref a b ≡ eq_by_cmp ref_cmp a b
ref_ties a b = both_tied (a.owner.0 == b.owner.0) (a.serial == b.serial) _ _ (unsigned_ties a.owner.0 b.owner.0) (unsigned_ties a.serial b.serial)

pub ref_ties_back : (a b : Ref) → same_ref a b ≡ eq_by_cmp ref_cmp b a
ref_ties_back a b = ref_ties a b ∙ (eq_by_cmp_equiv ref_cmp_total).symm a b

pub same_ref-is : (a b : Ref) → same_ref a b ≡ true → a ≡ b
same_ref-is a b h =
    let parts = (Decides-and _ _ (Decides-eqb a.owner.0 b.owner.0) (Decides-eqb a.serial b.serial)).0 h in
    ref_apart a b parts.0 parts.1

pub ref_cmp-IsAntisymmetric : IsAntisymmetric ref_cmp
ref_cmp-IsAntisymmetric a b e = same_ref-is a b (ref_ties a b ∙ ap is_eq e)

pub same_ref_equiv : IsEquivalence same_ref
same_ref_equiv = subst (λ (e : Ref → Ref → Bool). IsEquivalence e) (λ i a b. sym (ref_ties a b) i) (eq_by_cmp_equiv ref_cmp_total)
