-- The scripts that a reader gives: those whose canonical text is read back as an equal script.
use Rattle.std.specs.Prelude.{◌≡◌, ◌≢◌, ◌≤◌, ℕ, ◌+◌, List, [], ◌∷◌, length, map, sum, max, Bool, true, ◌&&◌, nat_lt, IsTrue, All, IfSome}
use Rattle.std.specs.List.{list_all}
use Rattle.sig_kinds.specs.declared.queue_data.QueueData.{QueueData}
use Rattle.sig_kinds.specs.declared.queue_data.QueueData.TheVariants.{OffHeap}
use Rattle.sig_terms.specs.Words.{is_variable, is_atom}
use Rattle.sig_terms.specs.Nodes.{greatest}
use Rattle.sig_terms.specs.Readable.{is_wide}
use Rattle.sig_terms.specs.declared.bytes.TheConstants.{MOST_WORD_BYTES}
use Rattle.sig_patterns.specs.declared.building.TheConstants.{MOST_NODES, MOST_DEPTH}
use Rattle.sig_patterns.specs.declared.clause.Clause.{Clause}
use Rattle.sig_patterns.specs.declared.guard.Guard.{Guard}
use Rattle.sig_patterns.specs.declared.guard.Operand.{Operand}
use Rattle.sig_patterns.specs.declared.guard.Operand.TheVariants as operand
use Rattle.sig_patterns.specs.declared.guard.Test.{Test}
use Rattle.sig_patterns.specs.declared.guard.Test.TheVariants as test
use Rattle.sig_patterns.specs.declared.expression.Expr.{Expr}
use Rattle.sig_patterns.specs.declared.expression.Expr.TheOpen.{Expr-F}
use Rattle.sig_patterns.specs.declared.expression.Expr.TheOpen as expression
use Rattle.sig_patterns.specs.declared.expression.Expr.TheFolds.{fold-Expr}
use Rattle.sig_patterns.specs.declared.pattern.Pattern.{Pattern}
use Rattle.sig_patterns.specs.declared.pattern.Pattern.TheOpen.{Pattern-F}
use Rattle.sig_patterns.specs.declared.pattern.Pattern.TheOpen as pattern
use Rattle.sig_patterns.specs.declared.pattern.Pattern.TheFolds.{fold-Pattern}
use Rattle.sig_program.specs.declared.version.Version.{Version}
use Rattle.sig_program.specs.declared.version.Version.TheVariants.{One, Two}
use Rattle.sig_program.specs.declared.label.Label.{Label}
use Rattle.sig_program.specs.declared.instruction.Instr.{Instr}
use Rattle.sig_program.specs.Parts.{exprs_of, vars_of, clauses_of, using_of}
use Rattle.sig_program.specs.Scripts.{Declared, Program, IsWithin, IsScriptWithin}
use Rattle.sig_tokens.specs.Tokens.{IsNameToken, IsVariableToken}
use Rattle.sig_reader.specs.Drafts.{may_guard}
use Rattle.sig_reader.specs.declared.guards.TheConstants.{MOST_TESTS}

-- how many nodes an expression has and how deep they lie, as of a term
abbrev pub expr_count_step : Expr-F ℕ → ℕ
expr_count_step (expression.Tuple counts) = 1 + sum counts
expr_count_step (expression.List counts) = 1 + sum counts
expr_count_step _ = 1

abbrev pub expr_nodes : Expr → ℕ
expr_nodes = fold-Expr ℕ expr_count_step

abbrev pub expr_depth_step : Expr-F ℕ → ℕ
expr_depth_step (expression.Tuple depths) = 1 + greatest depths
expr_depth_step (expression.List depths) = 1 + greatest depths
expr_depth_step _ = 1

abbrev pub expr_depth : Expr → ℕ
expr_depth = fold-Expr ℕ expr_depth_step

-- Of a pattern, [P1 | [P2 | Q]] counts as [P1, P2 | Q], which is one bracket: a number of the pattern by itself, and of it as the
-- tail of a list.
pub record Counted : Type 0 where
  pub whole : ℕ
  pub tail : ℕ

abbrev pub counts_alone : ℕ → Counted
counts_alone n = record { whole = n; tail = n }

abbrev pub pattern_count_step : Pattern-F Counted → Counted
pattern_count_step (pattern.Tuple ns) = counts_alone (1 + sum (map (λ n. n.whole) ns))
pattern_count_step (pattern.List ns) = counts_alone (1 + sum (map (λ n. n.whole) ns))
pattern_count_step (pattern.Cons head tail) = record { whole = 1 + (head.whole + tail.tail); tail = head.whole + tail.tail }
pattern_count_step _ = counts_alone 1

abbrev pub pattern_nodes : Pattern → ℕ
pattern_nodes p = (fold-Pattern Counted pattern_count_step p).whole

abbrev pub pattern_depth_step : Pattern-F Counted → Counted
pattern_depth_step (pattern.Tuple ns) = counts_alone (1 + greatest (map (λ n. n.whole) ns))
pattern_depth_step (pattern.List ns) = counts_alone (1 + greatest (map (λ n. n.whole) ns))
pattern_depth_step (pattern.Cons head tail) = record { whole = 1 + max head.whole tail.tail; tail = max head.whole tail.tail }
pattern_depth_step _ = counts_alone 1

abbrev pub pattern_depth : Pattern → ℕ
pattern_depth p = (fold-Pattern Counted pattern_depth_step p).whole

-- a variable's name
abbrev pub is_variable_token : List ℕ → Bool
is_variable_token word = nat_lt (length word) (MOST_WORD_BYTES + 1) && is_variable word

-- the integers, atoms, pids and variables of an expression are such, and each pid is below so many
abbrev pub expr_step_is_plain : ℕ → Expr-F Bool → Bool
expr_step_is_plain count (expression.Int n) = is_wide n
expr_step_is_plain count (expression.Atom bytes) = is_atom bytes
expr_step_is_plain count (expression.Pid p) = nat_lt p.0 count
expr_step_is_plain count (expression.Var x) = is_variable_token x.0
expr_step_is_plain count (expression.Tuple each) = list_all (λ b. b) each
expr_step_is_plain count (expression.List each) = list_all (λ b. b) each

abbrev pub is_plain_expr : ℕ → Expr → Bool
is_plain_expr count = fold-Expr Bool (expr_step_is_plain count)

-- an expression that a line may hold
pub record IsReadableExpr (count : ℕ) (e : Expr) : Type 0 where
  pub plain : IsTrue (is_plain_expr count e)
  pub nodes : expr_nodes e ≤ MOST_NODES
  pub depth : expr_depth e ≤ MOST_DEPTH

-- the same of a pattern
abbrev pub pattern_step_is_plain : ℕ → Pattern-F Bool → Bool
pattern_step_is_plain count pattern.Any = true
pattern_step_is_plain count (pattern.Bind x) = is_variable_token x.0
pattern_step_is_plain count (pattern.Pin x) = is_variable_token x.0
pattern_step_is_plain count (pattern.Int n) = is_wide n
pattern_step_is_plain count (pattern.Atom bytes) = is_atom bytes
pattern_step_is_plain count (pattern.Pid p) = nat_lt p.0 count
pattern_step_is_plain count (pattern.Tuple each) = list_all (λ b. b) each
pattern_step_is_plain count (pattern.List each) = list_all (λ b. b) each
pattern_step_is_plain count (pattern.Cons head tail) = head && tail

abbrev pub is_plain_pattern : ℕ → Pattern → Bool
is_plain_pattern count = fold-Pattern Bool (pattern_step_is_plain count)

pub record IsReadablePattern (count : ℕ) (p : Pattern) : Type 0 where
  pub plain : IsTrue (is_plain_pattern count p)
  pub nodes : pattern_nodes p ≤ MOST_NODES
  pub depth : pattern_depth p ≤ MOST_DEPTH

-- a side of a comparison that a line may hold
abbrev pub IsReadableSide : Operand → Type 0
IsReadableSide (operand.Int n) = is_wide n ≡ true
IsReadableSide (operand.Var x) = IsVariableToken x.0

-- the same of a test
abbrev pub IsReadableTest : Test → Type 0
IsReadableTest (test.Compare left sign right) = IsReadableSide left × IsReadableSide right
IsReadableTest (test.Is kind x) = IsVariableToken x.0

-- the same of an alternative, which has a test
abbrev pub IsReadableAlternative : List Test → Type 0
IsReadableAlternative tests = (1 ≤ length tests) × All IsReadableTest tests

-- the same of a guard: it has an alternative, and at most so many tests in all
pub record IsReadableGuard (g : Guard) : Type 0 where
  pub some : 1 ≤ length g.alternatives
  pub each : All IsReadableAlternative g.alternatives
  pub few : sum (map (λ (tests : List Test). length tests) g.alternatives) ≤ MOST_TESTS

-- a clause that a line of this version may hold
pub record IsReadableClause (version : Version) (count : ℕ) (c : Clause) : Type 0 where
  pub pattern : IsReadablePattern count c.pattern
  pub guard : IfSome c.guard IsReadableGuard
  pub allowed : may_guard version c.guard ≡ true

-- an instruction that lines of this version may hold
pub record IsReadableInstr (version : Version) (count : ℕ) (i : Instr) : Type 0 where
  pub exprs : All (IsReadableExpr count) (exprs_of i)
  pub clauses : All (IsReadableClause version count) (clauses_of i)
  pub vars : All IsVariableToken (vars_of i)
  pub using : IfSome (using_of i) (λ x. IsVariableToken x.0)

-- no two are equal
pub data AreDistinct : List (List ℕ) → Type 0 where
  none : AreDistinct []
  more : {name : List ℕ} {names : List (List ℕ)} → All (λ other. name ≢ other) names → AreDistinct names → AreDistinct (name ∷ names)

-- where a process of this version may keep its messages
abbrev pub MayKeep : Version → QueueData → Type 0
MayKeep One queue_data = queue_data ≡ OffHeap
MayKeep Two queue_data = Unit {0}

-- a process that lines of this version may hold
pub record IsReadableProc (version : Version) (count : ℕ) (p : Declared) : Type 0 where
  pub name : IsNameToken p.name
  pub messages : MayKeep version p.queue_data
  pub labels : All (λ (l : Label). IsNameToken l.name) p.labels
  pub distinct : AreDistinct (map (λ (l : Label). l.name) p.labels)
  pub within : IsWithin p
  pub instrs : All (IsReadableInstr version count) p.instrs

-- a script that a text may spell
pub record IsReadableScript (s : Program) : Type 0 where
  pub sound : IsScriptWithin s
  pub names : AreDistinct (map (λ (p : Declared). p.name) s.procs)
  pub procs : All (IsReadableProc s.version (length s.procs)) s.procs
