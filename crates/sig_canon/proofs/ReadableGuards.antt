-- A guard that was read is readable.
use Rattle.std.proofs.Common.{◌≡◌, ℕ, zero, suc, ◌+◌, ◌≤◌, List, [], ◌∷◌, ◌++◌, length, map, sum, All, IfSome, Option, Some, None, ok_or, arith, le_refl, length-append}
use Rattle.std.specs.Option.{option_map}
use Rattle.std.proofs.lemmas.List.Elements.{All-nil, All-push}
use Rattle.std.proofs.lemmas.List.Sums.{sum_by-cons}
use Rattle.sig_patterns.specs.declared.guard.Op.{Op}
use Rattle.sig_patterns.specs.declared.guard.Operand.{Operand}
use Rattle.sig_patterns.specs.declared.guard.Test.{Test}
use Rattle.sig_patterns.specs.declared.guard.Test.TheVariants as test
use Rattle.sig_patterns.specs.declared.guard.Guard.{Guard}
use Rattle.sig_tokens.specs.declared.fault.FaultKind.TheVariants.{Syntax}
use Rattle.sig_tokens.specs.declared.token.Sign as signs
use Rattle.sig_tokens.specs.declared.token.Sign.TheVariants.{OpenParen, CloseParen}
use Rattle.sig_tokens.specs.declared.token.TokenKind.{TokenKind}
use Rattle.sig_tokens.specs.declared.token.TokenKind.TheVariants.{Name, Variable, Integer}
use Rattle.sig_tokens.specs.declared.token.Token.{Token}
use Rattle.sig_reader.specs.declared.guards.Join.{Join}
use Rattle.sig_reader.specs.declared.guards.Join.TheVariants as join
use Rattle.sig_reader.specs.declared.guards.TheConstants.{MOST_TESTS}
use Rattle.sig_tokens.specs.Faults.{◌>>=◌, on_ok}
use Rattle.sig_tokens.specs.Signs.{is_sign, op_of}
use Rattle.sig_tokens.specs.Names.{name_at, variable_at}
use Rattle.sig_tokens.specs.Tokens.{text, IsNameToken, IsVariableToken}
use Rattle.sig_reader.specs.Guards.{kind_of, side_of, side_at, op_at, compare_at, behind_sign, enclosed_at, is_at, test_by, test_at, join_of, join_at, ReadGuard, joined_by, joined, alternatives_from, is_when, some_guard_at, guard_at}
use Rattle.sig_canon.specs.ReadableScript.{IsReadableSide, IsReadableTest, IsReadableAlternative, IsReadableGuard}
use Rattle.sig_reader.proofs.BoundTermLemmas.{Holds, anything, holds-if, holds-on_ok, holds-then}
use Rattle.sig_canon.proofs.WordLemmas.{IsWord, AreWords}
use Rattle.sig_canon.proofs.ReadablePhrases.{name-read, variable-read}

-- how many tests alternatives have
abbrev counted : List (List Test) → ℕ
counted alternatives = sum (map (λ (tests : List Test). length tests) alternatives)

counted-push : (done : List (List Test)) (tests : List Test) → counted (done ++ tests ∷ []) ≡ counted done + length tests
counted-push [] tests = omega (arith, sum_by-cons (λ k. k) (length tests) [])
counted-push (first ∷ done) tests =
    let count : List Test → ℕ = λ ts. length ts in
    omega (
      arith,
      counted-push done tests,
      sum_by-cons (λ k. k) (length first) (map count (done ++ tests ∷ [])),
      sum_by-cons (λ k. k) (length first) (map count done),
    )

side_of-read : (kind : TokenKind) (word : List ℕ) → IsWord kind word → Holds IsReadableSide (side_of kind word)
side_of-read Integer word w = w
side_of-read Variable word w = w
side_of-read _ word w = tt

module _ (line : List ℕ) where
  abbrev IsSide : Operand × List Token → Type 0
  IsSide x = IsReadableSide x.0 × AreWords line x.1

  abbrev IsOp : Op × List Token → Type 0
  IsOp x = AreWords line x.1

  abbrev IsTest : Test × List Token → Type 0
  IsTest x = IsReadableTest x.0 × AreWords line x.1

  abbrev IsVar : List ℕ × List Token → Type 0
  IsVar x = IsVariableToken x.0 × AreWords line x.1

  side-read : (ts : List Token) → AreWords line ts → Holds IsSide (side_at line ts)
  side-read [] h = tt
  side-read (t ∷ ts) h =
      holds-on_ok IsReadableSide IsSide (λ o. (o, ts)) (side_of t.kind (text line t)) (side_of-read t.kind (text line t) h.0) (λ o k. (k, h.1))

  op-read : (ts : List Token) → AreWords line ts → Holds IsOp (op_at ts)
  op-read [] h = tt
  op-read (t ∷ ts) h =
      holds-on_ok (λ _. Unit {0}) IsOp (λ op. (op, ts)) (ok_or (op_of t.kind) Syntax) (anything (ok_or (op_of t.kind) Syntax)) (λ op _. h.1)

  compare-read : (ts : List Token) → AreWords line ts → Holds IsTest (compare_at line ts)
  compare-read ts h =
      holds-then IsSide IsTest (λ x. op_at x.1 >>= λ y. on_ok (λ z. (test.Compare x.0 y.0 z.0, z.1)) (side_at line y.1)) (side_at line ts) (side-read ts h)
      (λ x k. holds-then IsOp IsTest (λ y. on_ok (λ z. (test.Compare x.0 y.0 z.0, z.1)) (side_at line y.1)) (op_at x.1) (op-read x.1 k.1)
      (λ y l. holds-on_ok IsSide IsTest (λ z. (test.Compare x.0 y.0 z.0, z.1)) (side_at line y.1) (side-read y.1 l) (λ z m. ((k.0, m.0), m.1))))

  sign-read : (sign : signs.Sign) (ts : List Token) → AreWords line ts → Holds (AreWords line) (behind_sign sign ts)
  sign-read sign [] h = tt
  sign-read sign (t ∷ ts) h = holds-if (AreWords line) (is_sign sign t.kind) _ _ (λ _. h.1) (λ _. tt)

  enclosed-read : (ts : List Token) → AreWords line ts → Holds IsVar (enclosed_at line ts)
  enclosed-read ts h =
      holds-then (AreWords line) IsVar (λ us. variable_at line us >>= λ x. on_ok (λ vs. (x.0, vs)) (behind_sign CloseParen x.1)) (behind_sign OpenParen ts) (sign-read OpenParen ts h)
      (λ us k. holds-then IsVar IsVar (λ x. on_ok (λ vs. (x.0, vs)) (behind_sign CloseParen x.1)) (variable_at line us) (variable-read line us k)
      (λ x l. holds-on_ok (AreWords line) IsVar (λ vs. (x.0, vs)) (behind_sign CloseParen x.1) (sign-read CloseParen x.1 l.1) (λ vs m. (l.0, m))))

  is-read : (ts : List Token) → AreWords line ts → Holds IsTest (is_at line ts)
  is-read ts h =
      holds-then (λ (x : List ℕ × List Token). IsNameToken x.0 × AreWords line x.1) IsTest
      (λ x. ok_or (kind_of x.0) Syntax >>= λ k. on_ok (λ y. (test.Is k (record { 0 = y.0 }), y.1)) (enclosed_at line x.1)) (name_at line ts) (name-read line ts h)
      (λ x l. holds-then (λ _. Unit {0}) IsTest (λ k. on_ok (λ y. (test.Is k (record { 0 = y.0 }), y.1)) (enclosed_at line x.1)) (ok_or (kind_of x.0) Syntax) (anything (ok_or (kind_of x.0) Syntax))
      (λ k _. holds-on_ok IsVar IsTest (λ y. (test.Is k (record { 0 = y.0 }), y.1)) (enclosed_at line x.1) (enclosed-read x.1 l.1) (λ y m. m)))

  test_by-read : (kind : TokenKind) (ts : List Token) → AreWords line ts → Holds IsTest (test_by kind line ts)
  test_by-read Name ts h = is-read ts h
  test_by-read _ ts h = compare-read ts h

  test-read : (ts : List Token) → AreWords line ts → Holds IsTest (test_at line ts)
  test-read [] h = tt
  test-read (t ∷ ts) h = test_by-read t.kind (t ∷ ts) h

  -- what joins tests, and the words behind it
  abbrev IsJoin : Join × List Token → Type 0
  IsJoin x = AreWords line x.1

  some-join : (o : Option Join) (ts : List Token) → AreWords line ts → IfSome (option_map (λ j. (j, ts)) o) IsJoin
  some-join None ts h = tt
  some-join (Some j) ts h = h

  join-read : (ts : List Token) → AreWords line ts → IfSome (join_at line ts) IsJoin
  join-read [] h = tt
  join-read (t ∷ ts) h = some-join (join_of t.kind (text line t)) ts h.1

  -- alternatives, at least one, of at most so many tests
  abbrev AreRead : List (List Test) × List Token → Type 0
  AreRead x = (1 ≤ length x.0) × All IsReadableAlternative x.0 × (counted x.0 ≤ MOST_TESTS) × AreWords line x.1

  -- a reader that gives such alternatives where so many tests more may stand
  abbrev GoesOn : ℕ → (List (List Test) → List Test → List Token → ReadGuard) → Type 0
  GoesOn room more =
      (done : List (List Test)) (tests : List Test) (ts : List Token) → AreWords line ts → All IsReadableAlternative done → All IsReadableTest tests → counted done + length tests + room ≤ MOST_TESTS →
      Holds AreRead (more done tests ts)

  module _ (room : ℕ) (more : List (List Test) → List Test → List Token → ReadGuard) (goes_on : GoesOn room more) (done : List (List Test)) (tests : List Test)
      (each : All IsReadableAlternative done) (all : All IsReadableTest tests) (one : 1 ≤ length tests) (few : counted done + length tests + room ≤ MOST_TESTS) where
    next : All IsReadableAlternative (done ++ tests ∷ [])
    next = All-push IsReadableAlternative done tests each (one, all)

    joined_by-read : (j : Join) (ts : List Token) → AreWords line ts → Holds AreRead (joined_by more done tests j ts)
    joined_by-read join.And ts h = goes_on done tests ts h each all few
    joined_by-read join.Or ts h =
        let less : counted (done ++ tests ∷ []) + 0 + room ≤ MOST_TESTS = omega (arith, few, counted-push done tests) in
        goes_on (done ++ tests ∷ []) [] ts h next (All-nil IsReadableTest) less

    joined-read : (ts : List Token) → AreWords line ts → (o : Option (Join × List Token)) → IfSome o IsJoin → Holds AreRead (joined more done tests ts o)
    joined-read ts h None k = (
      omega (arith, length-append done (tests ∷ [])),
      next,
      omega (arith, few, counted-push done tests),
      h,
    )
    joined-read ts h (Some x) k = joined_by-read x.0 x.1 k

  alternatives-read : (room : ℕ) → GoesOn room (alternatives_from line room)
  unfolding alternatives_from
  alternatives-read zero done tests ts h each all few = tt
  alternatives-read (suc room) done tests ts h each all few =
      holds-then IsTest AreRead (λ x. joined (alternatives_from line room) done (tests ++ x.0 ∷ []) x.1 (join_at line x.1)) (test_at line ts) (test-read ts h)
      (λ x k.
      let more : length (tests ++ x.0 ∷ []) ≡ length tests + 1 = length-append tests (x.0 ∷ []) in
      joined-read room (alternatives_from line room) (alternatives-read room) done (tests ++ x.0 ∷ []) each (All-push IsReadableTest tests x.0 all k.0)
      (omega (arith, more)) (omega (arith, few, more)) x.1 k.1 (join_at line x.1) (join-read x.1 k.1))

  -- nothing, or a guard, and the words behind it
  abbrev pub IsGuardRead : Option Guard × List Token → Type 0
  IsGuardRead x = IfSome x.0 IsReadableGuard × AreWords line x.1

  some_guard-read : (ts : List Token) → AreWords line ts → Holds IsGuardRead (some_guard_at line ts)
  some_guard-read ts h =
      holds-on_ok AreRead IsGuardRead (λ x. (Some (record { alternatives = x.0 }), x.1)) (alternatives_from line MOST_TESTS [] [] ts)
      (alternatives-read MOST_TESTS [] [] ts h (All-nil IsReadableAlternative) (All-nil IsReadableTest) (le_refl MOST_TESTS))
      (λ x k. (record { some = k.0; each = k.1; few = k.2 }, k.3))

  pub guard-read : (ts : List Token) → AreWords line ts → Holds IsGuardRead (guard_at line ts)
  guard-read [] h = (tt, tt)
  guard-read (t ∷ ts) h = holds-if IsGuardRead (is_when t.kind (text line t)) _ _ (λ _. some_guard-read ts h.1) (λ _. (tt, h))
