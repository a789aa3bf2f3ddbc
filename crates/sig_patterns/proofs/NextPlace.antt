-- One place further in a list of patterns, and in the terms that they meet.
use Rattle.std.proofs.Common.{◌≡◌, ℕ, ◌+◌, ◌<◌, Bool, true, false, List, [], ◌∷◌, ◌++◌, map, take, drop, length, get_or, append_assoc, refl, sym, ap, ◌∙◌, subst, None}
use Rattle.std.proofs.lemmas.List.{drop_more, map_more}
use Rattle.std.specs.List.{list_any}
use Rattle.sig_terms.specs.declared.term.Term.{Term}
use Rattle.sig_patterns.specs.declared.pattern.Pattern.{Pattern}
use Rattle.sig_patterns.specs.Matching.{Bindings}
use Rattle.sig_patterns.specs.Fitting.{first_each, first_in, fits_each, placed_each, placed}

-- the element at the place, and those behind it
pub at_place : {X : Type 0} (xs : List X) (i : ℕ) (x : X) → i < length xs → x ≡ get_or xs i x → drop i xs ≡ x ∷ drop (i + 1) xs
at_place xs i x within is = drop_more xs i x within ∙ ap (λ y. y ∷ drop (i + 1) xs) (sym is)

pub first_each_next : (ps : List Pattern) (ts : List Term) (i : ℕ) (p : Pattern) (t : Term) (var : List ℕ) → i < length ps → i < length ts → p ≡ get_or ps i p → t ≡ get_or ts i t → first_in p t var ≡ None
    → first_each (map first_in (drop i ps)) (drop i ts) var ≡ first_each (map first_in (drop (i + 1) ps)) (drop (i + 1) ts) var
first_each_next ps ts i p t var in_ps in_ts p_is t_is nowhere = rw (at_place ps i p in_ps p_is, at_place ts i t in_ts t_is, nowhere) refl

pub fits_each_next : (fit : Pattern → Term → Bool) (ps : List Pattern) (ts : List Term) (i : ℕ) (p : Pattern) (t : Term) → i < length ps → length ps ≡ length ts → p ≡ get_or ps i p → t ≡ get_or ts i t → fit p t ≡ true
    → fits_each (map fit (drop i ps)) (drop i ts) ≡ fits_each (map fit (drop (i + 1) ps)) (drop (i + 1) ts)
fits_each_next fit ps ts i p t within same p_is t_is here = rw (at_place ps i p within p_is, at_place ts i t (subst (λ n. i < n) same within) t_is, here) refl

pub placed_each_next : (ps : List Pattern) (ts : List Term) (i : ℕ) (p : Pattern) (t : Term) (before now : Bindings) → i < length ps → i < length ts → p ≡ get_or ps i p → t ≡ get_or ts i t → now ≡ before ++ placed p t
    → now ++ placed_each (map placed (drop (i + 1) ps)) (drop (i + 1) ts) ≡ before ++ placed_each (map placed (drop i ps)) (drop i ts)
placed_each_next ps ts i p t before now in_ps in_ts p_is t_is more =
    let rest = placed_each (map placed (drop (i + 1) ps)) (drop (i + 1) ts) in
    rw (at_place ps i p in_ps p_is, at_place ts i t in_ts t_is, more) (append_assoc before (placed p t) rest)

-- a test of the patterns that fails at the place
pub any_next : (test : Pattern → Bool) (ps : List Pattern) (i : ℕ) (p : Pattern) → i < length ps → p ≡ get_or ps i p → test p ≡ false
    → list_any (λ b. b) (map test (drop (i + 1) ps)) ≡ list_any (λ b. b) (map test (drop i ps))
any_next test ps i p within p_is fails =
    let rest = map test (drop (i + 1) ps) in
    sym (ap (λ (qs : List Pattern). list_any (λ b. b) (map test qs)) (at_place ps i p within p_is) ∙ ap (λ (b : Bool). list_any (λ c. c) (b ∷ rest)) fails)

-- one more value at the end of those of the first elements
pub map_next : {X Y : Type 0} (f : X → Y) (xs : List X) (i : ℕ) (x : X) (before now : List Y) (y : Y) → now ≡ before ++ y ∷ [] → before ≡ map f (take i xs) → y ≡ f x → i < length xs → x ≡ get_or xs i x
    → now ≡ map f (take (i + 1) xs)
map_next f xs i x before now y more is here within x_is =
    more ∙ ap (λ ys. ys ++ y ∷ []) is ∙ ap (λ z. map f (take i xs) ++ z ∷ []) (here ∙ ap f x_is) ∙ sym (map_more f xs i x within)
