-- Which variables a pattern asks for by `^`, and when the clauses of a receive ask for a reference (Erlang Reference Manual,
-- Pattern Matching, where a variable that is bound already asks for its value; Expressions, Receive).
use Rattle.std.specs.Prelude.{◌≡◌, List, All, Bool, true, false, ◌||◌}
use Rattle.std.specs.List.{list_any}
use Rattle.std.specs.Str.{bytes_eq}
use Rattle.sig_terms.specs.declared.reference.Ref.{Ref}
use Rattle.sig_terms.specs.declared.term.Term.TheVariants as term
use Rattle.sig_patterns.specs.declared.clause.Clause.{Clause}
use Rattle.sig_patterns.specs.declared.var.Var.{Var}
use Rattle.sig_patterns.specs.declared.pattern.Pattern.{Pattern}
use Rattle.sig_patterns.specs.declared.pattern.Pattern.TheOpen.{Pattern-F}
use Rattle.sig_patterns.specs.declared.pattern.Pattern.TheOpen as pattern
use Rattle.sig_patterns.specs.declared.pattern.Pattern.TheFolds.{fold-Pattern}
use Rattle.sig_patterns.specs.Environment.{Environment, value_of_var}

abbrev pub pins_step : Var → Pattern-F Bool → Bool
pins_step var (pattern.Pin x) = bytes_eq x.0 var.0
pins_step var (pattern.Tuple pinned) = list_any (λ b. b) pinned
pins_step var (pattern.List pinned) = list_any (λ b. b) pinned
pins_step var (pattern.Cons head tail) = head || tail
pins_step var _ = false

-- whether `^X` stands somewhere in the pattern, for this variable X
abbrev pub pins : Pattern → Var → Bool
pins p var = fold-Pattern Bool (pins_step var) p

-- Every clause asks for the reference: its pattern pins a variable that has the reference as its value.
abbrev pub AskFor : Environment → Ref → List Clause → Type 0
AskFor env r clauses = All (λ c. (x : Var) × (pins c.pattern x ≡ true) × (value_of_var env x.0 ≡ term.Ref r)) clauses
