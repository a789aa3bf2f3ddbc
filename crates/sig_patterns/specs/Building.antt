-- What an expression builds (Erlang Reference Manual, Expressions, Terms and Variables), and which values are built: those
-- of at most MOST_NODES nodes and of a depth of at most MOST_DEPTH (this project's own).
use Rattle.std.specs.Prelude.{◌≡◌, ◌-◌, ◌^◌, Bool, true, false, ◌&&◌, nat_le, min}
use Rattle.sig_terms.specs.Nodes.{node_count, depth_of}
use Rattle.sig_terms.specs.declared.term.Term.{Term}
use Rattle.sig_terms.specs.declared.term.Term.TheVariants as term
use Rattle.sig_patterns.specs.declared.expression.Expr.{Expr}
use Rattle.sig_patterns.specs.declared.expression.Expr.TheOpen.{Expr-F}
use Rattle.sig_patterns.specs.declared.expression.Expr.TheOpen as expression
use Rattle.sig_patterns.specs.declared.expression.Expr.TheFolds.{fold-Expr}
use Rattle.sig_patterns.specs.declared.building.BuildFault.{BuildFault}
use Rattle.sig_patterns.specs.declared.building.BuildFault.TheVariants.{TooLarge, Memory}
use Rattle.sig_patterns.specs.declared.building.TheConstants.{MOST_NODES, MOST_DEPTH}
use Rattle.sig_patterns.specs.Environment.{Environment, value_of_var}

abbrev pub value_step : Environment → Expr-F Term → Term
value_step env (expression.Int n) = term.Int n
value_step env (expression.Atom a) = term.Atom a
value_step env (expression.Pid p) = term.Pid p
value_step env (expression.Var var) = value_of_var env var.0
value_step env (expression.Tuple ts) = term.Tuple ts
value_step env (expression.List ts) = term.List ts

abbrev pub value_of : Environment → Expr → Term
value_of env = fold-Expr Term (value_step env)

-- whether the term is small enough to be built
abbrev pub is_small : Term → Bool
is_small t = nat_le (node_count t) MOST_NODES && nat_le (depth_of t) MOST_DEPTH

-- Why the value t was not built: it is too large, and the fault has its nodes and its depth, each at most the greatest
-- number of 64 bits; or it is small enough, and memory was wanting.
abbrev pub IsFaultOf : Term → BuildFault → Type 0
IsFaultOf t (TooLarge nodes depth) = (is_small t ≡ false) × (nodes ≡ min (node_count t) (2 ^ 64 - 1)) × (depth ≡ min (depth_of t) (2 ^ 64 - 1))
IsFaultOf t Memory = is_small t ≡ true
