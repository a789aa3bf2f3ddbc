-- Past the last term there is no first place, and nothing is placed.
use Rattle.std.proofs.Common.{◌≡◌, ℕ, List, [], ◌∷◌, refl, None}
use Rattle.sig_terms.specs.declared.term.Term.{Term}
use Rattle.sig_patterns.specs.Fitting.{Places, first_each, Placer, placed_each}

pub first_each-none : (fs : List (Term → Places)) (x : List ℕ) → first_each fs [] x ≡ None
first_each-none [] x = refl
first_each-none (f ∷ fs) x = refl

pub placed_each-nothing : (fs : List Placer) → placed_each fs [] ≡ []
placed_each-nothing [] = refl
placed_each-nothing (f ∷ fs) = refl
