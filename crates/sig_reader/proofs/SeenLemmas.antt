-- What a reader with other pids and other places of labels gives: what stays the same.
use Rattle.std.proofs.Common.{◌≡◌, ℕ, Bool, List, [], ◌∷◌, map, refl, sym, ap, subst, ◌∙◌}
use Rattle.std.specs.Prelude.{Option, Some, None, option_map}
use Rattle.std.specs.List.{list_any}
use Rattle.sig_patterns.specs.declared.clause.Clause.{Clause}
use Rattle.sig_patterns.specs.declared.var.Var.{Var}
use Rattle.sig_patterns.specs.declared.expression.Expr.{Expr, roll-Expr, map-Expr}
use Rattle.sig_patterns.specs.declared.expression.Expr.TheVariants as expr
use Rattle.sig_patterns.specs.declared.expression.Expr.TheOpen.{Expr-F}
use Rattle.sig_patterns.specs.declared.expression.Expr.TheOpen as expression
use Rattle.sig_patterns.specs.declared.expression.Expr.TheFolds.{fold-roll-Expr, ind-Expr}
use Rattle.sig_patterns.specs.declared.pattern.Pattern.{Pattern, roll-Pattern, map-Pattern}
use Rattle.sig_patterns.specs.declared.pattern.Pattern.TheVariants as pattern
use Rattle.sig_patterns.specs.declared.pattern.Pattern.TheOpen.{Pattern-F}
use Rattle.sig_patterns.specs.declared.pattern.Pattern.TheOpen as layer
use Rattle.sig_patterns.specs.declared.pattern.Pattern.TheFolds.{fold-roll-Pattern, ind-Pattern}
use Rattle.sig_patterns.specs.Pinning.{pins, pins_step}
use Rattle.sig_program.specs.declared.instruction.After.{After}
use Rattle.sig_program.specs.declared.instruction.Instr.{Instr}
use Rattle.sig_program.specs.Instructions.{Operand, an_expr, Said, AllSaid, operands_of, Spoken, Says, Receives, spoken}
use Rattle.sig_reader.proofs.TableLemmas.{made_of, made_again}
use Rattle.sig_reader.proofs.Seen.{kept, expr_seen, expr_seen_step, pattern_seen, pattern_seen_step, clause_seen, after_seen, said_seen, all_seen, spoken_seen, instr_seen}

-- ---- nothing changes in the second walk

exprs_kept : (es : List ((e : Expr) × (expr_seen kept e ≡ e))) → map (expr_seen kept) (map (λ e. e.0) es) ≡ map (λ e. e.0) es
exprs_kept [] = refl
exprs_kept (e ∷ es) = rw e.1 (ap (λ (xs : List Expr). e.0 ∷ xs) (exprs_kept es))

expr_comes : (y : Expr-F ((e : Expr) × (expr_seen kept e ≡ e))) → let x = roll-Expr (map-Expr ((e : Expr) × (expr_seen kept e ≡ e)) Expr (λ e. e.0) y) in expr_seen kept x ≡ x
expr_comes (expression.Int z) = fold-roll-Expr Expr (expr_seen_step kept) (expression.Int z) ∙ sym (expr.rolls-Int z)
expr_comes (expression.Atom bytes) = fold-roll-Expr Expr (expr_seen_step kept) (expression.Atom bytes) ∙ sym (expr.rolls-Atom bytes)
expr_comes (expression.Pid p) = fold-roll-Expr Expr (expr_seen_step kept) (expression.Pid p) ∙ sym (expr.rolls-Pid p)
expr_comes (expression.Var x) = fold-roll-Expr Expr (expr_seen_step kept) (expression.Var x) ∙ sym (expr.rolls-Var x)
expr_comes (expression.Tuple es) = fold-roll-Expr Expr (expr_seen_step kept) (expression.Tuple (map (λ e. e.0) es)) ∙ ap expr.Tuple (exprs_kept es) ∙ sym (expr.rolls-Tuple (map (λ e. e.0) es))
expr_comes (expression.List es) = fold-roll-Expr Expr (expr_seen_step kept) (expression.List (map (λ e. e.0) es)) ∙ ap expr.List (exprs_kept es) ∙ sym (expr.rolls-List (map (λ e. e.0) es))

pub expr_kept : (e : Expr) → expr_seen kept e ≡ e
expr_kept = ind-Expr (λ e. expr_seen kept e ≡ e) (λ x y is. subst (λ z. expr_seen kept (roll-Expr z) ≡ roll-Expr z) is (expr_comes y))

patterns_kept : (ps : List ((p : Pattern) × (pattern_seen kept p ≡ p))) → map (pattern_seen kept) (map (λ p. p.0) ps) ≡ map (λ p. p.0) ps
patterns_kept [] = refl
patterns_kept (p ∷ ps) = rw p.1 (ap (λ (xs : List Pattern). p.0 ∷ xs) (patterns_kept ps))

pattern_comes : (y : Pattern-F ((p : Pattern) × (pattern_seen kept p ≡ p))) → let x = roll-Pattern (map-Pattern ((p : Pattern) × (pattern_seen kept p ≡ p)) Pattern (λ p. p.0) y) in pattern_seen kept x ≡ x
pattern_comes layer.Any = fold-roll-Pattern Pattern (pattern_seen_step kept) layer.Any ∙ sym pattern.rolls-Any
pattern_comes (layer.Bind x) = fold-roll-Pattern Pattern (pattern_seen_step kept) (layer.Bind x) ∙ sym (pattern.rolls-Bind x)
pattern_comes (layer.Pin x) = fold-roll-Pattern Pattern (pattern_seen_step kept) (layer.Pin x) ∙ sym (pattern.rolls-Pin x)
pattern_comes (layer.Int z) = fold-roll-Pattern Pattern (pattern_seen_step kept) (layer.Int z) ∙ sym (pattern.rolls-Int z)
pattern_comes (layer.Atom bytes) = fold-roll-Pattern Pattern (pattern_seen_step kept) (layer.Atom bytes) ∙ sym (pattern.rolls-Atom bytes)
pattern_comes (layer.Pid p) = fold-roll-Pattern Pattern (pattern_seen_step kept) (layer.Pid p) ∙ sym (pattern.rolls-Pid p)
pattern_comes (layer.Tuple ps) = fold-roll-Pattern Pattern (pattern_seen_step kept) (layer.Tuple (map (λ p. p.0) ps)) ∙ ap pattern.Tuple (patterns_kept ps) ∙ sym (pattern.rolls-Tuple (map (λ p. p.0) ps))
pattern_comes (layer.List ps) = fold-roll-Pattern Pattern (pattern_seen_step kept) (layer.List (map (λ p. p.0) ps)) ∙ ap pattern.List (patterns_kept ps) ∙ sym (pattern.rolls-List (map (λ p. p.0) ps))
pattern_comes (layer.Cons head tail) =
    fold-roll-Pattern Pattern (pattern_seen_step kept) (layer.Cons head.0 tail.0) ∙ rw (head.1, tail.1) refl ∙ sym (pattern.rolls-Cons head.0 tail.0)

pub pattern_kept : (p : Pattern) → pattern_seen kept p ≡ p
pattern_kept = ind-Pattern (λ p. pattern_seen kept p ≡ p) (λ x y is. subst (λ z. pattern_seen kept (roll-Pattern z) ≡ roll-Pattern z) is (pattern_comes y))

target_kept : (target : Option ℕ) → option_map kept target ≡ target
target_kept None = refl
target_kept (Some n) = refl

clauses_kept : (clauses : List Clause) → map (clause_seen kept kept) clauses ≡ clauses
clauses_kept [] = refl
clauses_kept (c ∷ cs) =
    let first : clause_seen kept kept c ≡ c = rw (pattern_kept c.pattern, target_kept c.target) refl in
    rw first (ap (λ (xs : List Clause). c ∷ xs) (clauses_kept cs))

after_kept : (after : Option After) → option_map (after_seen kept) after ≡ after
after_kept None = refl
after_kept (Some a) = let same : after_seen kept a ≡ a = rw (target_kept a.target) refl in ap (λ (x : After). Some x) same

said_kept : (o : Operand) (x : Said o) → said_seen kept kept o x ≡ x
said_kept an_expr e = expr_kept e
said_kept _ x = refl

all_kept : (os : List Operand) (x : AllSaid os) → all_seen kept kept os x ≡ x
all_kept [] x = refl
all_kept (o ∷ os) x = rw (said_kept o x.0, all_kept os x.1) refl

spoken_kept : (s : Spoken) → spoken_seen kept kept s ≡ s
spoken_kept (Says v x) = ap (Says v) (all_kept (operands_of v) x)
spoken_kept (Receives r) = rw (clauses_kept r.clauses, after_kept r.after) refl

pub instr_kept : (i : Instr) → instr_seen kept kept i ≡ i
instr_kept i = ap made_of (spoken_kept (spoken i)) ∙ made_again i

-- ---- the pinned variables are the same in both walks

pins_layer : (x : Var) (z : Pattern-F Pattern) (p : Pattern) → roll-Pattern z ≡ p → pins p x ≡ pins_step x (map-Pattern Pattern Bool (λ q. pins q x) z)
pins_layer x z p e = ap (λ (q : Pattern). pins q x) (sym e) ∙ fold-roll-Pattern Bool (pins_step x) z

abbrev SamePins : (ℕ → ℕ) → Var → Pattern → Type 0
SamePins f x p = pins (pattern_seen f p) x ≡ pins p x

all_pins : (f : ℕ → ℕ) (x : Var) (ps : List ((p : Pattern) × SamePins f x p)) → map (λ (q : Pattern). pins q x) (map (pattern_seen f) (map (λ p. p.0) ps)) ≡ map (λ (q : Pattern). pins q x) (map (λ p. p.0) ps)
all_pins f x [] = refl
all_pins f x (p ∷ ps) = rw p.1 (ap (λ (bs : List Bool). pins p.0 x ∷ bs) (all_pins f x ps))

-- by a layer z of the one, and the same layer of the other
pins_by : (f : ℕ → ℕ) (x : Var) (z : Pattern-F Pattern) (y : Pattern-F Pattern) → roll-Pattern y ≡ pattern_seen_step f (map-Pattern Pattern Pattern (pattern_seen f) z) →
    pins_step x (map-Pattern Pattern Bool (λ q. pins q x) y) ≡ pins_step x (map-Pattern Pattern Bool (λ q. pins q x) z) → SamePins f x (roll-Pattern z)
pins_by f x z y e same =
    ap (λ (q : Pattern). pins q x) (fold-roll-Pattern Pattern (pattern_seen_step f) z) ∙ pins_layer x y (pattern_seen_step f (map-Pattern Pattern Pattern (pattern_seen f) z)) e
    ∙ same ∙ sym (pins_layer x z (roll-Pattern z) refl)

pins_come : (f : ℕ → ℕ) (x : Var) (y : Pattern-F ((p : Pattern) × SamePins f x p)) → SamePins f x (roll-Pattern (map-Pattern ((p : Pattern) × SamePins f x p) Pattern (λ p. p.0) y))
pins_come f x layer.Any = pins_by f x layer.Any layer.Any pattern.rolls-Any refl
pins_come f x (layer.Bind v) = pins_by f x (layer.Bind v) (layer.Bind v) (pattern.rolls-Bind v) refl
pins_come f x (layer.Pin v) = pins_by f x (layer.Pin v) (layer.Pin v) (pattern.rolls-Pin v) refl
pins_come f x (layer.Int z) = pins_by f x (layer.Int z) (layer.Int z) (pattern.rolls-Int z) refl
pins_come f x (layer.Atom bytes) = pins_by f x (layer.Atom bytes) (layer.Atom bytes) (pattern.rolls-Atom bytes) refl
pins_come f x (layer.Pid p) = pins_by f x (layer.Pid p) (layer.Pid (record { 0 = f p.0 })) (pattern.rolls-Pid (record { 0 = f p.0 })) refl
pins_come f x (layer.Tuple ps) =
    let qs : List Pattern = map (λ p. p.0) ps in
    pins_by f x (layer.Tuple qs) (layer.Tuple (map (pattern_seen f) qs)) (pattern.rolls-Tuple (map (pattern_seen f) qs)) (ap (list_any (λ b. b)) (all_pins f x ps))
pins_come f x (layer.List ps) =
    let qs : List Pattern = map (λ p. p.0) ps in
    pins_by f x (layer.List qs) (layer.List (map (pattern_seen f) qs)) (pattern.rolls-List (map (pattern_seen f) qs)) (ap (list_any (λ b. b)) (all_pins f x ps))
pins_come f x (layer.Cons head tail) =
    pins_by f x (layer.Cons head.0 tail.0) (layer.Cons (pattern_seen f head.0) (pattern_seen f tail.0)) (pattern.rolls-Cons (pattern_seen f head.0) (pattern_seen f tail.0)) (rw (head.1, tail.1) refl)

pub pins_seen : (f : ℕ → ℕ) (p : Pattern) (x : Var) → pins (pattern_seen f p) x ≡ pins p x
pins_seen f p x = ind-Pattern (SamePins f x) (λ w y is. subst (λ z. SamePins f x (roll-Pattern z)) is (pins_come f x y)) p
