-- What holds of every name in the values of the variables, and of the processes that an expression names, holds of every name in
-- its value.
use Rattle.std.proofs.Common.{ℕ, List, [], ◌∷◌, map, All, IfSome, Option, Some, None, sym, subst}
use Rattle.std.specs.Prelude.{unwrap_or}
use Rattle.std.specs.List.{concat}
use Rattle.std.specs.FinMap.{get}
use Rattle.std.proofs.lemmas.List.Elements.{All-nil, All-cons, All-head, All-same}
use Rattle.sig_terms.specs.declared.term.Term.{Term}
use Rattle.sig_terms.specs.Names.{Named, process, AllNames}
use Rattle.sig_terms.proofs.NameLemmas.{int_names, atom_names, pid_names, tuple_names, list_names}
use Rattle.sig_patterns.specs.declared.expression.Expr.{Expr, roll-Expr, map-Expr}
use Rattle.sig_patterns.specs.declared.expression.Expr.TheOpen.{Expr-F}
use Rattle.sig_patterns.specs.declared.expression.Expr.TheOpen as expression
use Rattle.sig_patterns.specs.declared.expression.Expr.TheFolds.{fold-roll-Expr, ind-Expr}
use Rattle.sig_patterns.specs.Environment.{Environment, undefined, value_of_var}
use Rattle.sig_patterns.specs.Building.{value_of, value_step}
use Rattle.sig_program.specs.Parts.{expr_pids, pids_of}
use Rattle.sig_patterns.proofs.PidLemmas.{pids_of-roll, all_front, all_behind}
use Rattle.sig_model.specs.ProcessState.{EnvironmentNames}

-- P holds of each process that the expression names
abbrev pub ExprNames : (Named → Type 0) → Expr → Type 0
ExprNames P e = All (λ (q : ℕ). P (process q)) (pids_of e)

-- the value of a variable; that of one without an entry is an atom
or_undefined : (P : Named → Type 0) (o : Option Term) → IfSome o (AllNames P) → AllNames P (unwrap_or o undefined)
or_undefined P None h = atom_names P _
or_undefined P (Some t) h = h

module _ (P : Named → Type 0) (env : Environment) (names : EnvironmentNames P env) where
  pub var_names : (var : List ℕ) → AllNames P (value_of_var env var)
  var_names var = or_undefined P (get env var) (names var)

  abbrev ValueNames : Expr → Type 0
  ValueNames e = ExprNames P e → AllNames P (value_of env e)

  abbrev Valued : Type 0
  Valued = (e : Expr) × ValueNames e

  abbrev exprs : List Valued → List Expr
  exprs es = map (λ e. e.0) es

  values : (es : List Valued) → All (λ (q : ℕ). P (process q)) (concat (map pids_of (exprs es))) → All (AllNames P) (map (value_of env) (exprs es))
  values [] h = All-nil (AllNames P)
  values (e ∷ es) h =
      All-cons (AllNames P) (value_of env e.0) (map (value_of env) (exprs es))
      (e.1 (all_front (λ q. P (process q)) (pids_of e.0) (concat (map pids_of (exprs es))) h))
      (values es (all_behind (λ q. P (process q)) (pids_of e.0) (concat (map pids_of (exprs es))) h))

  at : (x : Expr-F Expr) → (All (λ (q : ℕ). P (process q)) (expr_pids (map-Expr Expr (List ℕ) pids_of x)) → AllNames P (value_step env (map-Expr Expr Term (value_of env) x))) → ValueNames (roll-Expr x)
  at x f h =
      subst (AllNames P) (sym (fold-roll-Expr Term (value_step env) x))
      (f (All-same (λ (q : ℕ). P (process q)) (expr_pids (map-Expr Expr (List ℕ) pids_of x)) (pids_of (roll-Expr x)) (sym (pids_of-roll x)) h))

  step : (y : Expr-F Valued) → ValueNames (roll-Expr (map-Expr Valued Expr (λ e. e.0) y))
  step (expression.Int n) = at (expression.Int n) (λ h. int_names P n)
  step (expression.Atom a) = at (expression.Atom a) (λ h. atom_names P a)
  step (expression.Pid p) = at (expression.Pid p) (λ h. pid_names P p (All-head (λ (q : ℕ). P (process q)) p.0 [] h))
  step (expression.Var var) = at (expression.Var var) (λ h. var_names var.0)
  step (expression.Tuple es) = at (expression.Tuple (exprs es)) (λ h. tuple_names P (map (value_of env) (exprs es)) (values es h))
  step (expression.List es) = at (expression.List (exprs es)) (λ h. list_names P (map (value_of env) (exprs es)) (values es h))

  pub value_names : (e : Expr) → ExprNames P e → AllNames P (value_of env e)
  value_names = ind-Expr ValueNames (λ x y is. subst (λ z. ValueNames (roll-Expr z)) is (step y))
