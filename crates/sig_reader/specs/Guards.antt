-- The guards of clauses: `when`, and alternatives with `or` between them, each of which is tests with `and` between them. A guard has
-- at most MOST_TESTS tests. (Erlang Reference Manual, Expressions, Guard Sequences; the text is this project's own.)
use Rattle.std.specs.Prelude.{ℕ, zero, suc, List, [], ◌∷◌, ◌++◌, Bool, true, false, is_some, codes, ok_or, if◌then◌else◌, Option, Some, None, option_map, Result, Ok, Err}
use Rattle.std.specs.Str.{bytes_eq}
use Rattle.sig_patterns.specs.declared.guard.TermKind.{TermKind}
use Rattle.sig_patterns.specs.declared.guard.TermKind.TheVariants as kind
use Rattle.sig_patterns.specs.declared.guard.Op.{Op}
use Rattle.sig_patterns.specs.declared.guard.Operand.{Operand}
use Rattle.sig_patterns.specs.declared.guard.Operand.TheVariants as operand
use Rattle.sig_patterns.specs.declared.guard.Test.{Test}
use Rattle.sig_patterns.specs.declared.guard.Test.TheVariants as test
use Rattle.sig_patterns.specs.declared.guard.Guard.{Guard}
use Rattle.sig_tokens.specs.declared.fault.FaultKind.{FaultKind}
use Rattle.sig_tokens.specs.declared.fault.FaultKind.TheVariants.{Syntax, TermTooLarge}
use Rattle.sig_tokens.specs.declared.token.Sign as signs
use Rattle.sig_tokens.specs.declared.token.Sign.TheVariants.{OpenParen, CloseParen}
use Rattle.sig_tokens.specs.declared.token.TokenKind.{TokenKind}
use Rattle.sig_tokens.specs.declared.token.TokenKind.TheVariants.{Name, Variable, Integer}
use Rattle.sig_tokens.specs.declared.token.Token.{Token}
use Rattle.sig_reader.specs.declared.guards.Join.{Join}
use Rattle.sig_reader.specs.declared.guards.Join.TheVariants as join
use Rattle.sig_reader.specs.declared.guards.TheConstants.{MOST_TESTS}
use Rattle.sig_tokens.specs.Faults.{◌>>=◌, on_ok}
use Rattle.sig_tokens.specs.Numbers.{int_of}
use Rattle.sig_tokens.specs.Tokens.{text}
use Rattle.sig_tokens.specs.Signs.{is_sign, op_of}
use Rattle.sig_tokens.specs.Names.{name_at, variable_at}

-- the word of the test for a kind of terms
abbrev pub kind_word : TermKind → List ℕ
kind_word kind.Integer = codes "is_integer"
kind_word kind.Atom = codes "is_atom"
kind_word kind.Pid = codes "is_pid"
kind_word kind.Reference = codes "is_reference"
kind_word kind.Tuple = codes "is_tuple"
kind_word kind.List = codes "is_list"

-- the kind of terms for which a word asks
abbrev pub kind_of : List ℕ → Option TermKind
kind_of word =
    if bytes_eq word (codes "is_integer") then Some kind.Integer
    else if bytes_eq word (codes "is_atom") then Some kind.Atom
    else if bytes_eq word (codes "is_pid") then Some kind.Pid
    else if bytes_eq word (codes "is_reference") then Some kind.Reference
    else if bytes_eq word (codes "is_tuple") then Some kind.Tuple
    else if bytes_eq word (codes "is_list") then Some kind.List
    else None

-- a side of a comparison: an integer or a variable
abbrev pub side_of : TokenKind → List ℕ → Result Operand FaultKind
side_of Integer word = Ok (operand.Int (int_of word))
side_of Variable word = Ok (operand.Var (record { 0 = word }))
side_of _ word = Err Syntax

-- a side at the front of the tokens, and the tokens behind it
abbrev pub side_at : List ℕ → List Token → Result (Operand × List Token) FaultKind
side_at line [] = Err Syntax
side_at line (t ∷ ts) = on_ok (λ o. (o, ts)) (side_of t.kind (text line t))

-- the same with a comparison sign
abbrev pub op_at : List Token → Result (Op × List Token) FaultKind
op_at [] = Err Syntax
op_at (t ∷ ts) = on_ok (λ op. (op, ts)) (ok_or (op_of t.kind) Syntax)

-- two sides, and a comparison sign between them
abbrev pub compare_at : List ℕ → List Token → Result (Test × List Token) FaultKind
compare_at line ts = side_at line ts >>= λ x. op_at x.1 >>= λ y. on_ok (λ z. (test.Compare x.0 y.0 z.0, z.1)) (side_at line y.1)

-- the tokens behind this sign
abbrev pub behind_sign : signs.Sign → List Token → Result (List Token) FaultKind
behind_sign sign [] = Err Syntax
behind_sign sign (t ∷ ts) = if is_sign sign t.kind then Ok ts else Err Syntax

-- a variable between parentheses
abbrev pub enclosed_at : List ℕ → List Token → Result (List ℕ × List Token) FaultKind
enclosed_at line ts = behind_sign OpenParen ts >>= λ us. variable_at line us >>= λ x. on_ok (λ vs. (x.0, vs)) (behind_sign CloseParen x.1)

-- the word for a kind, and a variable between parentheses
abbrev pub is_at : List ℕ → List Token → Result (Test × List Token) FaultKind
is_at line ts = name_at line ts >>= λ x. ok_or (kind_of x.0) Syntax >>= λ k. on_ok (λ y. (test.Is k (record { 0 = y.0 }), y.1)) (enclosed_at line x.1)

-- a test, by the kind of its first token
abbrev pub test_by : TokenKind → List ℕ → List Token → Result (Test × List Token) FaultKind
test_by Name line ts = is_at line ts
test_by _ line ts = compare_at line ts

-- a test at the front of the tokens, and the tokens behind it
abbrev pub test_at : List ℕ → List Token → Result (Test × List Token) FaultKind
test_at line [] = Err Syntax
test_at line (t ∷ ts) = test_by t.kind line (t ∷ ts)

-- whether a test may begin with the token
abbrev pub begins_test : TokenKind → List ℕ → Bool
begins_test Integer word = true
begins_test Variable word = true
begins_test Name word = is_some (kind_of word)
begins_test _ word = false

-- No test more may stand: a token that begins one is too much, and another can't stand here at all.
abbrev pub test_refusal : List ℕ → List Token → FaultKind
test_refusal line [] = Syntax
test_refusal line (t ∷ ts) = if begins_test t.kind (text line t) then TermTooLarge else Syntax

-- `and` or `or`
abbrev pub join_of : TokenKind → List ℕ → Option Join
join_of Name word =
    if bytes_eq word (codes "and") then Some join.And
    else if bytes_eq word (codes "or") then Some join.Or
    else None
join_of _ word = None

abbrev pub join_at : List ℕ → List Token → Option (Join × List Token)
join_at line [] = None
join_at line (t ∷ ts) = option_map (λ j. (j, ts)) (join_of t.kind (text line t))

-- the alternatives of a guard, and the tokens behind them; or what is wrong with the first token that can't stand
abbrev pub ReadGuard : Type 0
ReadGuard = Result (List (List Test) × List Token) FaultKind

-- behind `and` a test more of the same alternative, and behind `or` the first of the next
abbrev pub joined_by : (List (List Test) → List Test → List Token → ReadGuard) → List (List Test) → List Test → Join → List Token → ReadGuard
joined_by more done tests join.And ts = more done tests ts
joined_by more done tests join.Or ts = more (done ++ tests ∷ []) [] ts

-- behind a test: `and` or `or` and more, or the end of the guard
abbrev pub joined : (List (List Test) → List Test → List Token → ReadGuard) → List (List Test) → List Test → List Token → Option (Join × List Token) → ReadGuard
joined more done tests ts None = Ok (done ++ tests ∷ [], ts)
joined more done tests ts (Some x) = joined_by more done tests x.0 x.1

-- behind these alternatives, and behind these tests of the next one, where so many tests more may stand
unfoldable pub alternatives_from : List ℕ → ℕ → List (List Test) → List Test → List Token → ReadGuard
alternatives_from line zero done tests ts = Err (test_refusal line ts)
alternatives_from line (suc room) done tests ts =
    test_at line ts >>= λ x. joined (alternatives_from line room) done (tests ++ x.0 ∷ []) x.1 (join_at line x.1)

-- `when`
abbrev pub is_when : TokenKind → List ℕ → Bool
is_when Name word = bytes_eq word (codes "when")
is_when _ word = false

-- a guard behind `when`, and the tokens behind it
abbrev pub some_guard_at : List ℕ → List Token → Result (Option Guard × List Token) FaultKind
some_guard_at line ts = on_ok (λ x. (Some (record { alternatives = x.0 }), x.1)) (alternatives_from line MOST_TESTS [] [] ts)

-- nothing, or `when` and a guard; and the tokens behind it
abbrev pub guard_at : List ℕ → List Token → Result (Option Guard × List Token) FaultKind
guard_at line [] = Ok (None, [])
guard_at line (t ∷ ts) = if is_when t.kind (text line t) then some_guard_at line ts else Ok (None, t ∷ ts)
