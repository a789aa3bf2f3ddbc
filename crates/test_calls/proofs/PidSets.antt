-- Sets of one pid, of two and of three.
use Rattle.std.proofs.Common.{◌≡◌, ◌⊎◌, ℕ, ◌==◌, ◌||◌, ◌&&◌, not, Bool, true, false, List, sym, refl, ap, ◌∙◌, eq-eqb, ne_eqb, inl, inr, ⊎_elim}
use mathlib.Core.Logic.{dite}
use native.Mathlib.Decide.{ℕ_discrete}
use Rattle.sig_layout.specs.Sets.{has, no_senders, minus, plus}
use Rattle.sig_layout.proofs.Sending.{not_both, or_cases, bool_cases}
use Rattle.sig_layout.proofs.Members.{no_one, has_minus, has_plus}

or_yes : (b : Bool) → (b || true) ≡ true
or_yes true = refl
or_yes false = refl

abbrev pub More : List ℕ → List ℕ → ℕ → Type 0
More set before p = (s : ℕ) → has set s ≡ (has before s || (s == p))

equal_is : (s p : ℕ) → (s == p) ≡ true → s ≡ p
equal_is s p e = dite (ℕ_discrete s p) (λ h. h) (λ n. not_both (s == p) e (ne_eqb s p n))

pub more_it : (set before : List ℕ) (p : ℕ) → More set before p → has set p ≡ true
more_it set before p h = h p ∙ (ap (λ (b : Bool). has before p || b) (eq-eqb p p refl) ∙ or_yes (has before p))

pub more_old : (set before : List ℕ) (p s : ℕ) → More set before p → has before s ≡ true → has set s ≡ true
more_old set before p s h old = h s ∙ ap (λ (b : Bool). b || (s == p)) old

pub more_cases : (set before : List ℕ) (p s : ℕ) → More set before p → has set s ≡ true → (has before s ≡ true) ⊎ (s ≡ p)
more_cases set before p s h e = ⊎_elim (λ (o : has before s ≡ true). inl o) (λ (o : (s == p) ≡ true). inr (equal_is s p o)) (or_cases (has before s) (s == p) (sym (h s) ∙ e))

pub one_only : (set : List ℕ) (p s : ℕ) → More set no_senders p → has set s ≡ true → s ≡ p
one_only set p s h e = ⊎_elim (λ (o : has no_senders s ≡ true). not_both (has no_senders s) o (no_one s)) (λ (o : s ≡ p). o) (more_cases set no_senders p s h e)

pub kept_in : (a b : List ℕ) (s : ℕ) → has a s ≡ true → (has b s ≡ true → ⊥) → has (minus a b) s ≡ true
kept_in a b s h n = let f : has b s ≡ false = ⊎_elim (λ (t : has b s ≡ true). absurd (n t)) (λ (f : has b s ≡ false). f) (bool_cases (has b s)) in has_minus a b s ∙ (λ i. h i && not (f i))

pub joined_in : (a b : List ℕ) (s : ℕ) → (has a s ≡ true) ⊎ (has b s ≡ true) → has (plus a b) s ≡ true
joined_in a b s h = has_plus a b s ∙ ⊎_elim (λ (t : has a s ≡ true). ap (λ (x : Bool). x || has b s) t) (λ (t : has b s ≡ true). ap (λ (x : Bool). has a s || x) t ∙ or_yes (has a s)) h
