-- A term whose names are all others than a reference does not hold it; and whether all names of a list are others is decided.
use Rattle.std.proofs.Common.{◌≡◌, ℕ, Bool, true, false, ◌||◌, List, [], ◌∷◌, map, All, refl, sym, ap, subst, ◌∙◌, inl, inr, ◌⊎◌}
use Rattle.std.specs.List.{list_any}
use Rattle.std.proofs.lemmas.Bool.{both_ways}
use Rattle.std.proofs.lemmas.Bool.Decides.{Decides-and, Decides-eqb}
use Rattle.std.proofs.lemmas.List.Elements.{All-nil, All-cons, All-head, All-tail, All-same}
use Rattle.sig_terms.specs.declared.reference.Ref.{Ref}
use Rattle.sig_terms.specs.declared.term.Term.{Term, roll-Term, map-Term}
use Rattle.sig_terms.specs.declared.term.Term.TheOpen.{Term-F}
use Rattle.sig_terms.specs.declared.term.Term.TheOpen as layer
use Rattle.sig_terms.specs.declared.term.Term.TheFolds.{fold-roll-Term, ind-Term}
use Rattle.sig_terms.specs.Names.{Named, process, reference, names_step, names_of, AllNames}
use Rattle.sig_terms.specs.Nodes.{same_ref, holds_step, holds}
use Rattle.sig_terms.proofs.NameLemmas.{names_of_each, all_before, all_behind}
use Rattle.sig_terms.proofs.ReferenceLemmas.{same_ref-is}
use Rattle.sig_model.specs.Marking.{IsOther}

pub never : (b : Bool) → (b ≡ true → ⊥) → b ≡ false
never true h = absurd (h refl)
never false h = refl

-- a process is no reference
abbrev IsProcess : Named → Type 0
IsProcess (process q) = Unit {0}
IsProcess (reference r) = ⊥

abbrev pub owner_in : Named → ℕ
owner_in (process q) = q
owner_in (reference r) = r.owner.0

abbrev pub serial_in : Named → ℕ
serial_in (process q) = 0
serial_in (reference r) = r.serial

module _ (r : Ref) where
  pub process_other : (q : ℕ) → IsOther r (process q)
  process_other q e = subst IsProcess e tt

  abbrev HoldsNot : Term → Type 0
  HoldsNot t = AllNames (IsOther r) t → holds r t ≡ false

  abbrev Terms : Type 0
  Terms = List ((t : Term) × HoldsNot t)

  abbrev terms : Terms → List Term
  terms es = map (λ e. e.0) es

  none_hold : (es : Terms) → All (IsOther r) (names_of_each (terms es)) → list_any (λ b. b) (map (holds r) (terms es)) ≡ false
  none_hold [] h = refl
  none_hold (e ∷ es) h =
      ap (λ (b : Bool). b || list_any (λ c. c) (map (holds r) (terms es))) (e.1 (all_before (IsOther r) (names_of e.0) (names_of_each (terms es)) h))
      ∙ none_hold es (all_behind (IsOther r) (names_of e.0) (names_of_each (terms es)) h)

  at : (x : Term-F Term) → (All (IsOther r) (names_step (map-Term Term (List Named) names_of x)) → holds_step r (map-Term Term Bool (holds r) x) ≡ false) → HoldsNot (roll-Term x)
  at x f h =
      fold-roll-Term Bool (holds_step r) x
      ∙ f (All-same (IsOther r) (names_step (map-Term Term (List Named) names_of x)) (names_of (roll-Term x)) (sym (fold-roll-Term (List Named) names_step x)) h)

  step : (y : Term-F ((t : Term) × HoldsNot t)) → HoldsNot (roll-Term (map-Term ((t : Term) × HoldsNot t) Term (λ e. e.0) y))
  step (layer.Int n) = at (layer.Int n) (λ h. refl)
  step (layer.Atom a) = at (layer.Atom a) (λ h. refl)
  step (layer.Pid p) = at (layer.Pid p) (λ h. refl)
  step (layer.Ref q) = at (layer.Ref q) (λ h. never (same_ref q r) (λ e. All-head (IsOther r) (reference q) (process q.owner.0 ∷ []) h (ap reference (same_ref-is q r e))))
  step (layer.Tuple es) = at (layer.Tuple (terms es)) (none_hold es)
  step (layer.List es) = at (layer.List (terms es)) (none_hold es)

  pub holds_not : (t : Term) → HoldsNot t
  holds_not = ind-Term HoldsNot (λ x y is. subst (λ z. HoldsNot (roll-Term z)) is (step y))

  differ : (q : Ref) → same_ref q r ≡ false → IsOther r (reference q)
  differ q e h = both_ways (same_ref q r) e ((Decides-and _ _ (Decides-eqb q.owner.0 r.owner.0) (Decides-eqb q.serial r.serial)).1 (ap owner_in h, ap serial_in h))

  -- the names of a list, each another one, or not
  other_or_not : (n : Named) → IsOther r n ⊎ (IsOther r n → ⊥)
  other_or_not (process q) = inl (process_other q)
  other_or_not (reference q) = go (same_ref q r) refl
    where
      go : (b : Bool) → same_ref q r ≡ b → IsOther r (reference q) ⊎ (IsOther r (reference q) → ⊥)
      go true e = inr (λ h. h (ap reference (same_ref-is q r e)))
      go false e = inl (differ q e)

  pub others_or_not : (ns : List Named) → All (IsOther r) ns ⊎ (All (IsOther r) ns → ⊥)
  others_or_not [] = inl (All-nil (IsOther r))
  others_or_not (n ∷ ns) = go (other_or_not n) (others_or_not ns)
    where
      go : IsOther r n ⊎ (IsOther r n → ⊥) → All (IsOther r) ns ⊎ (All (IsOther r) ns → ⊥) → All (IsOther r) (n ∷ ns) ⊎ (All (IsOther r) (n ∷ ns) → ⊥)
      go (inl a) (inl b) = inl (All-cons (IsOther r) n ns a b)
      go (inl a) (inr b) = inr (λ h. b (All-tail (IsOther r) n ns h))
      go (inr a) b = inr (λ h. a (All-head (IsOther r) n ns h))
