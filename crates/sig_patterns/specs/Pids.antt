-- The pids in expressions and patterns.
use Rattle.std.specs.Prelude.{ℕ, Bool, List, [], ◌∷◌, ◌++◌, All}
use Rattle.std.specs.List.{concat}
use Rattle.sig_terms.specs.Names.{process, IsAmong}
use Rattle.sig_patterns.specs.declared.expression.Expr.{Expr}
use Rattle.sig_patterns.specs.declared.expression.Expr.TheOpen.{Expr-F}
use Rattle.sig_patterns.specs.declared.expression.Expr.TheOpen as expression
use Rattle.sig_patterns.specs.declared.expression.Expr.TheFolds.{fold-Expr}
use Rattle.sig_patterns.specs.declared.pattern.Pattern.{Pattern}
use Rattle.sig_patterns.specs.declared.pattern.Pattern.TheOpen.{Pattern-F}
use Rattle.sig_patterns.specs.declared.pattern.Pattern.TheOpen as pattern
use Rattle.sig_patterns.specs.declared.pattern.Pattern.TheFolds.{fold-Pattern}

-- the pids in one layer of an expression, where those of its elements are held
abbrev pub expr_pids : Expr-F (List ℕ) → List ℕ
expr_pids (expression.Pid p) = p.0 ∷ []
expr_pids (expression.Tuple held) = concat held
expr_pids (expression.List held) = concat held
expr_pids _ = []

-- the pids in an expression, from left to right
abbrev pub pids_of : Expr → List ℕ
pids_of e = fold-Expr (List ℕ) expr_pids e

-- each process that stands in an expression is known
abbrev pub IsExprAmong : List Bool → Expr → Type 0
IsExprAmong known e = All (λ pid. IsAmong known (process pid)) (pids_of e)

-- the pids in one layer of a pattern, where those of its elements are held
abbrev pub pattern_pids : Pattern-F (List ℕ) → List ℕ
pattern_pids (pattern.Pid p) = p.0 ∷ []
pattern_pids (pattern.Tuple held) = concat held
pattern_pids (pattern.List held) = concat held
pattern_pids (pattern.Cons head tail) = head ++ tail
pattern_pids _ = []

-- the pids in a pattern, from left to right
abbrev pub pids_of_pattern : Pattern → List ℕ
pids_of_pattern p = fold-Pattern (List ℕ) pattern_pids p
