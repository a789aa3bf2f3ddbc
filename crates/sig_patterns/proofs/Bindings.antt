-- What a matcher binds against the first places: the words of the proof that the walk without bindings is the match.
use Rattle.std.proofs.Common.{◌≡◌, ℕ, Bool, true, false, ◌&&◌, cond, List, refl, sym, ap, ◌∙◌, Option, Some, None, option_and_then}
use Rattle.std.specs.Option.{option_or}
use Rattle.sig_terms.specs.TermTest.{same_term}
use Rattle.sig_terms.specs.declared.term.Term.{Term}
use Rattle.sig_patterns.specs.Matching.{Bindings, bound_to, asking}
use Rattle.sig_patterns.specs.Fitting.{Places}

-- g has each place that is bound, or is a first one
abbrev pub Covers : Places → Bindings → Places → Type 0
Covers g bound first = (x : List ℕ) (u : Term) → option_or (bound_to bound x) (first x) ≡ Some u → g x ≡ Some u

-- none where the test fails; else what was bound, and the first places of what was not
abbrev pub Goes : Option Bindings → Bindings → Places → Bool → Type 0
Goes None bound first b = b ≡ false
Goes (Some after) bound first b = (b ≡ true) × ((x : List ℕ) → bound_to after x ≡ option_or (bound_to bound x) (first x))

pub or_none : (o : Option Term) → option_or o None ≡ o
or_none None = refl
or_none (Some u) = refl

or_assoc : (a b c : Option Term) → option_or (option_or a b) c ≡ option_or a (option_or b c)
or_assoc None b c = refl
or_assoc (Some u) b c = refl

or_more : (a b c : Option Term) (u : Term) → option_or a b ≡ Some u → option_or a (option_or b c) ≡ Some u
or_more a b c u e = sym (or_assoc a b c) ∙ ap (λ o. option_or o c) e

pub goes_along : (o : Option Bindings) (bound : Bindings) (f g : Places) (b d : Bool) → ((x : List ℕ) → f x ≡ g x) → b ≡ d → Goes o bound f b → Goes o bound g d
goes_along None bound f g b d same e h = sym e ∙ h
goes_along (Some after) bound f g b d same e h = (sym e ∙ h.0, λ x. h.1 x ∙ ap (option_or (bound_to bound x)) (same x))

pub covers_first : (g : Places) (bound : Bindings) (f h : Places) → Covers g bound (λ x. option_or (f x) (h x)) → Covers g bound f
covers_first g bound f h c x u e = c x u (or_more (bound_to bound x) (f x) (h x) u e)

pub covers_next : (g : Places) (bound after : Bindings) (f h : Places) → ((x : List ℕ) → bound_to after x ≡ option_or (bound_to bound x) (f x)) → Covers g bound (λ x. option_or (f x) (h x)) → Covers g after h
covers_next g bound after f h is c x u e = c x u (sym (or_assoc (bound_to bound x) (f x) (h x)) ∙ ap (λ o. option_or o (h x)) (sym (is x)) ∙ e)

and_false : (a : Bool) → (a && false) ≡ false
and_false true = refl
and_false false = refl

-- the second matcher, where the first one gave something
last_goes : (o : Option Bindings) (bound after : Bindings) (f h : Places) (a b : Bool) → a ≡ true → ((x : List ℕ) → bound_to after x ≡ option_or (bound_to bound x) (f x)) → Goes o after h b
    → Goes o bound (λ x. option_or (f x) (h x)) (a && b)
last_goes None bound after f h a b holds is fails = ap (λ z. a && z) fails ∙ and_false a
last_goes (Some last) bound after f h a b holds is ends =
    (ap (λ z. z && b) holds ∙ ends.0, λ x. ends.1 x ∙ ap (λ o. option_or o (h x)) (is x) ∙ or_assoc (bound_to bound x) (f x) (h x))

-- one matcher and then another
pub goes_then : (o : Option Bindings) (next : Bindings → Option Bindings) (bound : Bindings) (f h : Places) (a b : Bool) → Goes o bound f a
    → ((after : Bindings) → ((x : List ℕ) → bound_to after x ≡ option_or (bound_to bound x) (f x)) → Goes (next after) after h b)
    → Goes (option_and_then next o) bound (λ x. option_or (f x) (h x)) (a && b)
goes_then None next bound f h a b fails then = ap (λ z. z && b) fails
goes_then (Some after) next bound f h a b holds then = last_goes (next after) bound after f h a b holds.0 holds.1 (then after holds.1)

-- a term that is asked for binds nothing
goes_asking_if : (b : Bool) (bound : Bindings) (f : Places) → ((x : List ℕ) → option_or (bound_to bound x) (f x) ≡ bound_to bound x) → Goes (cond b (Some bound) None) bound f b
goes_asking_if true bound f nothing = (refl, λ x. sym (nothing x))
goes_asking_if false bound f nothing = refl

pub goes_asking : (wanted t : Term) (bound : Bindings) (f : Places) → ((x : List ℕ) → option_or (bound_to bound x) (f x) ≡ bound_to bound x) → Goes (asking wanted t bound) bound f (same_term wanted t)
goes_asking wanted t bound f nothing = goes_asking_if (same_term wanted t) bound f nothing
