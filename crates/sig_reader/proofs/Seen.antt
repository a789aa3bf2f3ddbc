-- What a reader makes of a script's parts, where it gives a pid and the place of a label as other numbers.
use Rattle.std.specs.Prelude.{ℕ, List, [], ◌∷◌, map, option_map}
use Rattle.sig_patterns.specs.declared.clause.Clause.{Clause}
use Rattle.sig_patterns.specs.declared.expression.Expr.{Expr}
use Rattle.sig_patterns.specs.declared.expression.Expr.TheVariants as expr
use Rattle.sig_patterns.specs.declared.expression.Expr.TheOpen.{Expr-F}
use Rattle.sig_patterns.specs.declared.expression.Expr.TheOpen as expression
use Rattle.sig_patterns.specs.declared.expression.Expr.TheFolds.{fold-Expr}
use Rattle.sig_patterns.specs.declared.pattern.Pattern.{Pattern}
use Rattle.sig_patterns.specs.declared.pattern.Pattern.TheVariants as pattern
use Rattle.sig_patterns.specs.declared.pattern.Pattern.TheOpen.{Pattern-F}
use Rattle.sig_patterns.specs.declared.pattern.Pattern.TheOpen as layer
use Rattle.sig_patterns.specs.declared.pattern.Pattern.TheFolds.{fold-Pattern}
use Rattle.sig_program.specs.declared.instruction.After.{After}
use Rattle.sig_program.specs.declared.instruction.Instr.{Instr}
use Rattle.sig_program.specs.Instructions.{Operand, an_expr, a_label, Said, AllSaid, operands_of, Spoken, Says, Receives, spoken}
use Rattle.sig_program.specs.declared.instruction.Receiving.{Receiving}
use Rattle.sig_reader.proofs.TableLemmas.{made_of}

-- the second walk gives each number as it is, and the first gives 0
abbrev pub kept : ℕ → ℕ
kept n = n

abbrev pub zeroed : ℕ → ℕ
zeroed n = 0

abbrev pub expr_seen_step : (ℕ → ℕ) → Expr-F Expr → Expr
expr_seen_step f (expression.Int n) = expr.Int n
expr_seen_step f (expression.Atom bytes) = expr.Atom bytes
expr_seen_step f (expression.Pid p) = expr.Pid (record { 0 = f p.0 })
expr_seen_step f (expression.Var x) = expr.Var x
expr_seen_step f (expression.Tuple es) = expr.Tuple es
expr_seen_step f (expression.List es) = expr.List es

-- an expression with other pids
abbrev pub expr_seen : (ℕ → ℕ) → Expr → Expr
expr_seen f = fold-Expr Expr (expr_seen_step f)

abbrev pub pattern_seen_step : (ℕ → ℕ) → Pattern-F Pattern → Pattern
pattern_seen_step f layer.Any = pattern.Any
pattern_seen_step f (layer.Bind x) = pattern.Bind x
pattern_seen_step f (layer.Pin x) = pattern.Pin x
pattern_seen_step f (layer.Int n) = pattern.Int n
pattern_seen_step f (layer.Atom bytes) = pattern.Atom bytes
pattern_seen_step f (layer.Pid p) = pattern.Pid (record { 0 = f p.0 })
pattern_seen_step f (layer.Tuple ps) = pattern.Tuple ps
pattern_seen_step f (layer.List ps) = pattern.List ps
pattern_seen_step f (layer.Cons head tail) = pattern.Cons head tail

-- the same of a pattern
abbrev pub pattern_seen : (ℕ → ℕ) → Pattern → Pattern
pattern_seen f = fold-Pattern Pattern (pattern_seen_step f)

abbrev pub clause_seen : (ℕ → ℕ) → (ℕ → ℕ) → Clause → Clause
clause_seen f g c = record c { pattern = pattern_seen f c.pattern; target = option_map g c.target }

abbrev pub after_seen : (ℕ → ℕ) → After → After
after_seen g a = record a { target = option_map g a.target }

-- what an operand says, with other pids, by f, and other places of labels, by g
abbrev pub said_seen : (ℕ → ℕ) → (ℕ → ℕ) → (o : Operand) → Said o → Said o
said_seen f g an_expr e = expr_seen f e
said_seen f g a_label n = g n
said_seen f g _ x = x

-- the same of operands, and of an instruction
abbrev pub all_seen : (ℕ → ℕ) → (ℕ → ℕ) → (os : List Operand) → AllSaid os → AllSaid os
all_seen f g [] x = tt
all_seen f g (o ∷ os) x = (said_seen f g o x.0, all_seen f g os x.1)

abbrev pub receiving_seen : (ℕ → ℕ) → (ℕ → ℕ) → Receiving → Receiving
receiving_seen f g r = record r { clauses = map (clause_seen f g) r.clauses; after = option_map (after_seen g) r.after }

abbrev pub spoken_seen : (ℕ → ℕ) → (ℕ → ℕ) → Spoken → Spoken
spoken_seen f g (Says v x) = Says v (all_seen f g (operands_of v) x)
spoken_seen f g (Receives r) = Receives (receiving_seen f g r)

abbrev pub instr_seen : (ℕ → ℕ) → (ℕ → ℕ) → Instr → Instr
instr_seen f g i = made_of (spoken_seen f g (spoken i))
