-- The tests of a guard, one after another.
use Rattle.std.proofs.Common.{◌≡◌, ℕ, zero, suc, ◌-◌, List, [], ◌∷◌, ◌++◌, Option, Some, None, Result, Ok, Err, refl, sym, ◌∙◌, ap, arith}
use Rattle.std.specs.Prelude.{IsErrAnd}
use Rattle.sig_patterns.specs.declared.guard.Test.{Test}
use Rattle.sig_tokens.specs.declared.fault.FaultKind.{FaultKind}
use Rattle.sig_tokens.specs.declared.fault.Stop.{Stop}
use Rattle.sig_tokens.specs.declared.token.Token.{Token}
use Rattle.sig_reader.specs.declared.guards.Join.{Join}
use Rattle.sig_reader.specs.declared.guards.Join.TheVariants as join
use Rattle.sig_tokens.specs.Faults.{◌>>=◌, Stops, Gives}
use Rattle.sig_tokens.proofs.PhraseLemmas.{stops_with, stopped}
use Rattle.sig_reader.specs.Guards.{test_at, test_refusal, join_at, joined_by, joined, alternatives_from}

less : (n : ℕ) → suc n - 1 ≡ n
less n = omega arith

-- what is said is one value
pub one_value : {A : Type 0} (x y : A) (said : Result A FaultKind) → said ≡ Ok x → said ≡ Ok y → x ≡ y
one_value x y (Ok z) e f = cc
one_value x y (Err k) e f = absurd cc

-- no test more may stand
pub no_test_left : (line : List ℕ) (room : ℕ) (done : List (List Test)) (tests : List Test) (ts : List Token) → room ≡ 0 → alternatives_from line room done tests ts ≡ Err (test_refusal line ts)
unfolding alternatives_from
no_test_left line zero done tests ts h = refl
no_test_left line (suc room) done tests ts h = absurd (omega (arith, h))

-- a test, and what is behind it
test_step : (line : List ℕ) (room : ℕ) (done : List (List Test)) (tests : List Test) (ts : List Token) → (room ≡ 0 → ⊥) →
    alternatives_from line room done tests ts ≡ (test_at line ts >>= λ x. joined (alternatives_from line (room - 1)) done (tests ++ x.0 ∷ []) x.1 (join_at line x.1))
unfolding alternatives_from
test_step line zero done tests ts some = absurd (some refl)
test_step line (suc room) done tests ts some = rw (less room) refl

module _ (line : List ℕ) (room : ℕ) (done : List (List Test)) (tests : List Test) (ts : List Token) where
  -- a test is refused
  pub test_stops : {X : Type 0} (view : X → List (List Test) × List Token) (r : Result X Stop) (e : Stop) → (room ≡ 0 → ⊥) → IsErrAnd r (λ x. x ≡ e) → Stops e (test_at line ts) →
      Gives view r (alternatives_from line room done tests ts)
  test_stops view r e some h s =
      rw (test_step line room done tests ts some)
      (stops_with view r e _ h (stopped e (test_at line ts) (λ x. joined (alternatives_from line (room - 1)) done (tests ++ x.0 ∷ []) x.1 (join_at line x.1)) s))

  -- from here on this test stands there, and these tokens behind it
  module _ (some : room ≡ 0 → ⊥) (t : Test) (behind : List Token) (here : test_at line ts ≡ Ok (t, behind)) (more : List Test) (made : more ≡ tests ++ t ∷ []) where
    this_test : (o : Option (Join × List Token)) → o ≡ join_at line behind → alternatives_from line room done tests ts ≡ joined (alternatives_from line (room - 1)) done more behind o
    this_test o found =
        test_step line room done tests ts some
        ∙ ap (λ (r : Result (Test × List Token) FaultKind). r >>= λ x. joined (alternatives_from line (room - 1)) done (tests ++ x.0 ∷ []) x.1 (join_at line x.1)) here
        ∙ ap (λ (p : Option (Join × List Token)). joined (alternatives_from line (room - 1)) done (tests ++ t ∷ []) behind p) (sym found)
        ∙ ap (λ (us : List Test). joined (alternatives_from line (room - 1)) done us behind o) (sym made)

    -- `and` stands behind it
    pub and_on : (j : Join) (rest : List Token) → j ≡ join.And → Some (j, rest) ≡ join_at line behind → alternatives_from line room done tests ts ≡ alternatives_from line (room - 1) done more rest
    and_on j rest is found =
        this_test (Some (j, rest)) found ∙ ap (λ (k : Join). joined_by (alternatives_from line (room - 1)) done more k rest) is

    -- `or` stands behind it
    pub or_on : (j : Join) (rest : List Token) (all : List (List Test)) (none : List Test) → j ≡ join.Or → Some (j, rest) ≡ join_at line behind → all ≡ done ++ more ∷ [] → none ≡ [] →
        alternatives_from line room done tests ts ≡ alternatives_from line (room - 1) all none rest
    or_on j rest all none is found added empty =
        this_test (Some (j, rest)) found ∙ ap (λ (k : Join). joined_by (alternatives_from line (room - 1)) done more k rest) is
        ∙ ap (λ (d : List (List Test)). alternatives_from line (room - 1) d [] rest) (sym added)
        ∙ ap (λ (us : List Test). alternatives_from line (room - 1) all us rest) (sym empty)

    -- the guard ends behind it
    pub ends_on : (all : List (List Test)) → None ≡ join_at line behind → all ≡ done ++ more ∷ [] → alternatives_from line room done tests ts ≡ Ok (all, behind)
    ends_on all found added = this_test None found ∙ ap (λ (d : List (List Test)). Ok (d, behind)) (sym added)
