-- When the guard of a clause is true, by the values of the variables (Erlang Reference Manual, Expressions, Guard Sequences). The
-- manual writes `;` between alternatives and `,` between tests. Which tests there are is this project's own.
use Rattle.std.specs.Prelude.{ℕ, ℤ, List, Bool, true, false, not, int_lt, int_le, Option, Some, None}
use Rattle.std.specs.List.{list_any, list_all}
use Rattle.std.specs.Ordering.{int_eq}
use Rattle.sig_terms.specs.declared.term.Term.{Term, out-Term}
use Rattle.sig_terms.specs.declared.term.Term.TheVariants as term
use Rattle.sig_terms.specs.declared.term.Term.TheOpen.{Term-F}
use Rattle.sig_terms.specs.declared.term.Term.TheOpen as layer
use Rattle.sig_patterns.specs.declared.guard.TermKind.{TermKind}
use Rattle.sig_patterns.specs.declared.guard.TermKind.TheVariants as kind
use Rattle.sig_patterns.specs.declared.guard.Op.{Op}
use Rattle.sig_patterns.specs.declared.guard.Op.TheVariants as sign
use Rattle.sig_patterns.specs.declared.guard.Operand.{Operand}
use Rattle.sig_patterns.specs.declared.guard.Operand.TheVariants as operand
use Rattle.sig_patterns.specs.declared.guard.Test.{Test}
use Rattle.sig_patterns.specs.declared.guard.Test.TheVariants as test
use Rattle.sig_patterns.specs.declared.guard.Guard.{Guard}

-- the value of each variable, by its bytes
abbrev pub Values : Type 0
Values = List ℕ → Term

-- the value of an operand: the integer itself, or that of the variable
abbrev pub operand_value : Values → Operand → Term
operand_value values (operand.Int n) = term.Int n
operand_value values (operand.Var var) = values var.0

abbrev pub int_layer : Term-F Term → Option ℤ
int_layer (layer.Int n) = Some n
int_layer _ = None

-- the integer that a term is
abbrev pub int_value : Term → Option ℤ
int_value t = int_layer (out-Term t)

-- whether two integers compare so (Erlang Reference Manual, Expressions, Term Comparisons)
abbrev pub compares_ints : Op → ℤ → ℤ → Bool
compares_ints sign.Less m n = int_lt m n
compares_ints sign.Greater m n = int_lt n m
compares_ints sign.AtMost m n = int_le m n
compares_ints sign.AtLeast m n = int_le n m
compares_ints sign.Equal m n = int_eq m n
compares_ints sign.Unequal m n = not (int_eq m n)

abbrev pub compares_both : Op → Option ℤ → Option ℤ → Bool
compares_both op (Some m) (Some n) = compares_ints op m n
compares_both op _ _ = false

-- Whether both terms are integers that compare so. That a comparison of other terms is false, whatever its sign, is this project's
-- own rule: in Erlang terms of all kinds are ordered.
abbrev pub compares : Op → Term → Term → Bool
compares op t u = compares_both op (int_value t) (int_value u)

abbrev pub is_kind_layer : TermKind → Term-F Term → Bool
is_kind_layer kind.Integer (layer.Int n) = true
is_kind_layer kind.Atom (layer.Atom a) = true
is_kind_layer kind.Pid (layer.Pid p) = true
is_kind_layer kind.Reference (layer.Ref r) = true
is_kind_layer kind.Tuple (layer.Tuple ts) = true
is_kind_layer kind.List (layer.List ts) = true
is_kind_layer _ _ = false

-- whether a term is of a kind (module `erlang`, `is_integer/1` and its like)
abbrev pub is_kind : TermKind → Term → Bool
is_kind k t = is_kind_layer k (out-Term t)

-- whether a test holds
abbrev pub test_holds : Values → Test → Bool
test_holds values (test.Compare a op b) = compares op (operand_value values a) (operand_value values b)
test_holds values (test.Is k var) = is_kind k (values var.0)

-- whether a guard is true: all tests of one of its alternatives hold; and where there is no guard, nothing is asked
abbrev pub guard_holds : Values → Option Guard → Bool
guard_holds values None = true
guard_holds values (Some guard) = list_any (list_all (test_holds values)) guard.alternatives
