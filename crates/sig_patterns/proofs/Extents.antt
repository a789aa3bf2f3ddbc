-- The nodes and the depth of the value of an expression, by its cases.
use Rattle.std.proofs.Common.{◌≡◌, ℕ, ℤ, ◌+◌, ◌-◌, ◌^◌, ◌<◌, min, max, List, map, sum, length, get_or, drop, arith, sym, ap, ◌∙◌}
use Rattle.std.proofs.lemmas.List.Sums.{sum_by-cons}
use Rattle.sig_terms.proofs.Totals.{sum_kept, max_kept}
use Rattle.sig_patterns.proofs.NextPlace.{at_place}
use Rattle.sig_terms.specs.Nodes.{node_count, depth_of, greatest, count_step, depth_step}
use Rattle.sig_terms.specs.declared.pid.Pid.{Pid}
use Rattle.sig_terms.specs.declared.term.Term.{Term}
use Rattle.sig_terms.specs.declared.term.Term.TheVariants as term
use Rattle.sig_terms.specs.declared.term.Term.TheOpen as term_layer
use Rattle.sig_terms.specs.declared.term.Term.TheFolds.{fold-roll-Term}
use Rattle.sig_patterns.specs.declared.var.Var.{Var}
use Rattle.sig_patterns.specs.declared.expression.Expr.{Expr}
use Rattle.sig_patterns.specs.declared.expression.Expr.TheVariants as expr
use Rattle.sig_patterns.specs.declared.expression.Expr.TheOpen as expr_layer
use Rattle.sig_patterns.specs.declared.expression.Expr.TheFolds.{fold-roll-Expr}
use Rattle.sig_patterns.specs.Environment.{Environment, value_of_var}
use Rattle.sig_patterns.specs.Building.{value_of, value_step}

tuple_nodes : (ts : List Term) → node_count (term.Tuple ts) ≡ 1 + sum (map node_count ts)
tuple_nodes ts = ap node_count (sym (term.rolls-Tuple ts)) ∙ fold-roll-Term ℕ count_step (term_layer.Tuple ts)

list_nodes : (ts : List Term) → node_count (term.List ts) ≡ 1 + sum (map node_count ts)
list_nodes ts = ap node_count (sym (term.rolls-List ts)) ∙ fold-roll-Term ℕ count_step (term_layer.List ts)

tuple_depth : (ts : List Term) → depth_of (term.Tuple ts) ≡ 1 + greatest (map depth_of ts)
tuple_depth ts = ap depth_of (sym (term.rolls-Tuple ts)) ∙ fold-roll-Term ℕ depth_step (term_layer.Tuple ts)

list_depth : (ts : List Term) → depth_of (term.List ts) ≡ 1 + greatest (map depth_of ts)
list_depth ts = ap depth_of (sym (term.rolls-List ts)) ∙ fold-roll-Term ℕ depth_step (term_layer.List ts)

pub tuple_value : (env : Environment) (es : List Expr) → value_of env (expr.Tuple es) ≡ term.Tuple (map (value_of env) es)
tuple_value env es = ap (value_of env) (sym (expr.rolls-Tuple es)) ∙ fold-roll-Expr Term (value_step env) (expr_layer.Tuple es)

pub list_value : (env : Environment) (es : List Expr) → value_of env (expr.List es) ≡ term.List (map (value_of env) es)
list_value env es = ap (value_of env) (sym (expr.rolls-List es)) ∙ fold-roll-Expr Term (value_step env) (expr_layer.List es)

pub int_value : (env : Environment) (n : ℤ) → value_of env (expr.Int n) ≡ term.Int n
int_value env n = ap (value_of env) (sym (expr.rolls-Int n)) ∙ fold-roll-Expr Term (value_step env) (expr_layer.Int n)

pub atom_value : (env : Environment) (a : List ℕ) → value_of env (expr.Atom a) ≡ term.Atom a
atom_value env a = ap (value_of env) (sym (expr.rolls-Atom a)) ∙ fold-roll-Expr Term (value_step env) (expr_layer.Atom a)

pub pid_value : (env : Environment) (p : Pid) → value_of env (expr.Pid p) ≡ term.Pid p
pid_value env p = ap (value_of env) (sym (expr.rolls-Pid p)) ∙ fold-roll-Expr Term (value_step env) (expr_layer.Pid p)

pub var_value : (env : Environment) (x : Var) → value_of env (expr.Var x) ≡ value_of_var env x.0
var_value env x = ap (value_of env) (sym (expr.rolls-Var x)) ∙ fold-roll-Expr Term (value_step env) (expr_layer.Var x)

-- a term without elements
abbrev IsLeaf : Term → Type 0
IsLeaf t = (node_count t ≡ 1) × (depth_of t ≡ 1)

int_leaf : (n : ℤ) → IsLeaf (term.Int n)
int_leaf n = (ap node_count (sym (term.rolls-Int n)) ∙ fold-roll-Term ℕ count_step (term_layer.Int n), ap depth_of (sym (term.rolls-Int n)) ∙ fold-roll-Term ℕ depth_step (term_layer.Int n))

atom_leaf : (a : List ℕ) → IsLeaf (term.Atom a)
atom_leaf a = (ap node_count (sym (term.rolls-Atom a)) ∙ fold-roll-Term ℕ count_step (term_layer.Atom a), ap depth_of (sym (term.rolls-Atom a)) ∙ fold-roll-Term ℕ depth_step (term_layer.Atom a))

pid_leaf : (p : Pid) → IsLeaf (term.Pid p)
pid_leaf p = (ap node_count (sym (term.rolls-Pid p)) ∙ fold-roll-Term ℕ count_step (term_layer.Pid p), ap depth_of (sym (term.rolls-Pid p)) ∙ fold-roll-Term ℕ depth_step (term_layer.Pid p))

-- the nodes and the depth of an expression's value
abbrev pub HasExtent : Environment → Expr → ℕ → ℕ → Type 0
HasExtent env e nodes depth = (node_count (value_of env e) ≡ nodes) × (depth_of (value_of env e) ≡ depth)

has : (env : Environment) (e : Expr) (t : Term) (nodes depth : ℕ) → value_of env e ≡ t → node_count t ≡ nodes → depth_of t ≡ depth → HasExtent env e nodes depth
has env e t nodes depth is n d = (ap node_count is ∙ n, ap depth_of is ∙ d)

pub int_extent : (env : Environment) (n : ℤ) → HasExtent env (expr.Int n) 1 1
int_extent env n = has env _ _ _ _ (int_value env n) (int_leaf n).0 (int_leaf n).1

pub atom_extent : (env : Environment) (a : List ℕ) → HasExtent env (expr.Atom a) 1 1
atom_extent env a = has env _ _ _ _ (atom_value env a) (atom_leaf a).0 (atom_leaf a).1

pub pid_extent : (env : Environment) (p : Pid) → HasExtent env (expr.Pid p) 1 1
pid_extent env p = has env _ _ _ _ (pid_value env p) (pid_leaf p).0 (pid_leaf p).1

pub tuple_extent : (env : Environment) (es : List Expr) → HasExtent env (expr.Tuple es) (1 + sum (map node_count (map (value_of env) es))) (1 + greatest (map depth_of (map (value_of env) es)))
tuple_extent env es = has env _ _ _ _ (tuple_value env es) (tuple_nodes (map (value_of env) es)) (tuple_depth (map (value_of env) es))

pub list_extent : (env : Environment) (es : List Expr) → HasExtent env (expr.List es) (1 + sum (map node_count (map (value_of env) es))) (1 + greatest (map depth_of (map (value_of env) es)))
list_extent env es = has env _ _ _ _ (list_value env es) (list_nodes (map (value_of env) es)) (list_depth (map (value_of env) es))

-- a number that is kept at the greatest: 1, and one more than another
pub one_kept : (whole : ℕ) → whole ≡ 1 → 1 ≡ min whole (2 ^ 64 - 1)
one_kept whole is = omega arith

pub one_more_kept : (n m k whole : ℕ) → n ≡ min (1 + m) (2 ^ 64 - 1) → m ≡ min k (2 ^ 64 - 1) → whole ≡ 1 + k → n ≡ min whole (2 ^ 64 - 1)
one_more_kept n m k whole a b c = omega arith

-- one expression further in a list
pub nodes_next : (env : Environment) (es : List Expr) (i : ℕ) (e : Expr) (so_far one now whole : ℕ) → i < length es → e ≡ get_or es i e → one ≡ min (node_count (value_of env e)) (2 ^ 64 - 1) → now ≡ min (so_far + one) (2 ^ 64 - 1)
    → min (so_far + sum (map node_count (map (value_of env) (drop i es)))) (2 ^ 64 - 1) ≡ whole → min (now + sum (map node_count (map (value_of env) (drop (i + 1) es)))) (2 ^ 64 - 1) ≡ whole
nodes_next env es i e so_far one now whole within is a b c =
    let rest : List ℕ = map node_count (map (value_of env) (drop (i + 1) es)) in
    let left : sum (map node_count (map (value_of env) (drop i es))) ≡ node_count (value_of env e) + sum rest =
    ap (λ (left : List Expr). sum (map node_count (map (value_of env) left))) (at_place es i e within is) ∙ sum_by-cons (λ (n : ℕ). n) (node_count (value_of env e)) rest in
    sum_kept so_far now one (node_count (value_of env e)) (sum rest) whole a b (ap (λ n. min (so_far + n) (2 ^ 64 - 1)) (sym left) ∙ c)

pub depth_next : (env : Environment) (es : List Expr) (i : ℕ) (e : Expr) (so_far one now whole : ℕ) → i < length es → e ≡ get_or es i e → one ≡ min (depth_of (value_of env e)) (2 ^ 64 - 1) → now ≡ max so_far one
    → min (max so_far (greatest (map depth_of (map (value_of env) (drop i es))))) (2 ^ 64 - 1) ≡ whole → min (max now (greatest (map depth_of (map (value_of env) (drop (i + 1) es))))) (2 ^ 64 - 1) ≡ whole
depth_next env es i e so_far one now whole within is a b c =
    max_kept so_far now one (depth_of (value_of env e)) _ whole a b (ap (λ (rest : List Expr). min (max so_far (greatest (map depth_of (map (value_of env) rest)))) (2 ^ 64 - 1)) (sym (at_place es i e within is)) ∙ c)
