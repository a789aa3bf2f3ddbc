-- The canonical text of a script: one line for each fact, one blank between the parts of a line, and none in an expression or a
-- pattern. The language of scripts is this project's own.
use Rattle.std.specs.Prelude.{ℕ, ◌+◌, List, [], ◌∷◌, ◌++◌, map, filter, ◌==◌, Bool, true, false, slice_get, Option, Some, None, codes, decimal}
use Rattle.std.specs.Fmt.{signed_decimal}
use Rattle.std.specs.List.{concat, flat_map}
use Rattle.std.specs.Option.{option_map_or}
use Rattle.sig_kinds.specs.declared.alias_mode.AliasMode.{AliasMode}
use Rattle.sig_kinds.specs.declared.alias_mode.AliasMode.TheVariants as alias_mode
use Rattle.sig_kinds.specs.declared.queue_data.QueueData.{QueueData}
use Rattle.sig_kinds.specs.declared.queue_data.QueueData.TheVariants.{OnHeap, OffHeap}
use Rattle.sig_patterns.specs.declared.clause.Clause.{Clause}
use Rattle.sig_patterns.specs.declared.guard.Guard.{Guard}
use Rattle.sig_patterns.specs.declared.guard.Op.{Op}
use Rattle.sig_patterns.specs.declared.guard.Op.TheVariants as op
use Rattle.sig_patterns.specs.declared.guard.Operand as side
use Rattle.sig_patterns.specs.declared.guard.Operand.TheVariants as sides
use Rattle.sig_patterns.specs.declared.guard.Test.{Test}
use Rattle.sig_patterns.specs.declared.guard.Test.TheVariants as test
use Rattle.sig_patterns.specs.declared.var.Var.{Var}
use Rattle.sig_patterns.specs.declared.expression.Expr.{Expr}
use Rattle.sig_patterns.specs.declared.expression.Expr.TheOpen.{Expr-F}
use Rattle.sig_patterns.specs.declared.expression.Expr.TheOpen as expression
use Rattle.sig_patterns.specs.declared.expression.Expr.TheFolds.{fold-Expr}
use Rattle.sig_patterns.specs.declared.pattern.Pattern.{Pattern}
use Rattle.sig_patterns.specs.declared.pattern.Pattern.TheOpen.{Pattern-F}
use Rattle.sig_patterns.specs.declared.pattern.Pattern.TheOpen as pattern
use Rattle.sig_patterns.specs.declared.pattern.Pattern.TheFolds.{fold-Pattern}
use Rattle.sig_terms.specs.TermText.{atom_text, joined}
use Rattle.sig_program.specs.declared.version.Version.{Version}
use Rattle.sig_program.specs.declared.version.Version.TheVariants.{One, Two}
use Rattle.sig_program.specs.declared.label.Label.{Label}
use Rattle.sig_program.specs.declared.instruction.After.{After}
use Rattle.sig_program.specs.declared.instruction.Instr.{Instr}
use Rattle.sig_program.specs.Instructions.{Operand, an_expr, a_variable, a_label, a_switch, a_mode, a_flag, Said, AllSaid, word_of, operands_of, Spoken, Says, Receives, spoken}
use Rattle.sig_program.specs.Scripts.{Declared, Program}
use Rattle.sig_reader.specs.Guards.{kind_word}

-- the name at this place, from 0; every place that a script names has one
abbrev pub name_of_place : List (List ℕ) → ℕ → List ℕ
name_of_place names n = option_map_or (λ name. name) (slice_get names n) []

-- `@` and the name of the process
abbrev pub process_text : List (List ℕ) → ℕ → List ℕ
process_text names pid = codes "@" ++ name_of_place names pid

-- the text of an expression from the texts of its elements
abbrev pub expr_step : List (List ℕ) → Expr-F (List ℕ) → List ℕ
expr_step names (expression.Int n) = signed_decimal n
expr_step names (expression.Atom bytes) = atom_text bytes
expr_step names (expression.Pid p) = process_text names p.0
expr_step names (expression.Var x) = x.0
expr_step names (expression.Tuple texts) = codes "{" ++ joined texts ++ codes "}"
expr_step names (expression.List texts) = codes "[" ++ joined texts ++ codes "]"

-- the text of an expression, where the processes have these names
abbrev pub expr_text : List (List ℕ) → Expr → List ℕ
expr_text names = fold-Expr (List ℕ) (expr_step names)

-- A pattern by itself, and as the tail of a list, up to the bracket that closes it: [P1 | [P2 | Q]] is written [P1,P2|Q].
pub record Written : Type 0 where
  pub whole : List ℕ
  pub tail : List ℕ

-- a pattern that is no list with a tail
abbrev pub alone : List ℕ → Written
alone text = record { whole = text; tail = codes "|" ++ text ++ codes "]" }

abbrev pub pattern_step : List (List ℕ) → Pattern-F Written → Written
pattern_step names pattern.Any = alone (codes "_")
pattern_step names (pattern.Bind x) = alone x.0
pattern_step names (pattern.Pin x) = alone (codes "^" ++ x.0)
pattern_step names (pattern.Int n) = alone (signed_decimal n)
pattern_step names (pattern.Atom bytes) = alone (atom_text bytes)
pattern_step names (pattern.Pid p) = alone (process_text names p.0)
pattern_step names (pattern.Tuple ws) = alone (codes "{" ++ joined (map (λ w. w.whole) ws) ++ codes "}")
pattern_step names (pattern.List ws) = alone (codes "[" ++ joined (map (λ w. w.whole) ws) ++ codes "]")
pattern_step names (pattern.Cons head tail) =
    record { whole = codes "[" ++ head.whole ++ tail.tail; tail = codes "," ++ head.whole ++ tail.tail }

abbrev pub pattern_written : List (List ℕ) → Pattern → Written
pattern_written names = fold-Pattern Written (pattern_step names)

-- the text of a pattern, where the processes have these names
abbrev pub pattern_text : List (List ℕ) → Pattern → List ℕ
pattern_text names p = (pattern_written names p).whole

abbrev pub after_blank : List ℕ → List ℕ
after_blank text = codes " " ++ text

-- a word, and what stands behind it with a blank before each
abbrev pub spaced : List ℕ → List (List ℕ) → List ℕ
spaced word texts = word ++ concat (map after_blank texts)

-- nothing or a word, in front of other texts
abbrev pub flag_text : List ℕ → Bool → List (List ℕ) → List (List ℕ)
flag_text word true rest = word ∷ rest
flag_text word false rest = rest

abbrev pub mode_text : Option AliasMode → List (List ℕ) → List (List ℕ)
mode_text None rest = rest
mode_text (Some alias_mode.Explicit) rest = codes "explicit_unalias" ∷ rest
mode_text (Some alias_mode.Demonitor) rest = codes "demonitor" ∷ rest
mode_text (Some alias_mode.ReplyDemonitor) rest = codes "reply_demonitor" ∷ rest
mode_text (Some alias_mode.Reply) rest = codes "reply" ∷ rest

abbrev pub switch_text : Bool → List ℕ
switch_text true = codes "on"
switch_text false = codes "off"

-- nothing, or `->` and the label's name
abbrev pub target_text : List (List ℕ) → Option ℕ → List (List ℕ)
target_text labels None = []
target_text labels (Some n) = codes "->" ∷ name_of_place labels n ∷ []

abbrev pub marker_text : Option Var → List (List ℕ)
marker_text None = []
marker_text (Some x) = codes "using" ∷ x.0 ∷ []

-- a side of a comparison
abbrev pub side_text : side.Operand → List ℕ
side_text (sides.Int n) = signed_decimal n
side_text (sides.Var x) = x.0

abbrev pub op_text : Op → List ℕ
op_text op.Less = codes "<"
op_text op.Greater = codes ">"
op_text op.AtMost = codes "=<"
op_text op.AtLeast = codes ">="
op_text op.Equal = codes "=="
op_text op.Unequal = codes "/="

-- the texts of a test, in front of other texts; a test for a kind of terms is one text
abbrev pub test_text : Test → List (List ℕ) → List (List ℕ)
test_text (test.Compare left sign right) rest = side_text left ∷ op_text sign ∷ side_text right ∷ rest
test_text (test.Is kind x) rest = (kind_word kind ++ codes "(" ++ x.0 ++ codes ")") ∷ rest

-- tests of one alternative, the first behind this word and each other behind `and`
abbrev pub tests_text : List ℕ → List Test → List (List ℕ) → List (List ℕ)
tests_text word [] rest = rest
tests_text word (t ∷ ts) rest = word ∷ test_text t (tests_text (codes "and") ts rest)

-- alternatives, the first behind this word and each other behind `or`
abbrev pub alternatives_text : List ℕ → List (List Test) → List (List ℕ) → List (List ℕ)
alternatives_text word [] rest = rest
alternatives_text word (tests ∷ more) rest = tests_text word tests (alternatives_text (codes "or") more rest)

-- nothing, or `when` and the guard
abbrev pub guard_text : Option Guard → List (List ℕ) → List (List ℕ)
guard_text None rest = rest
guard_text (Some g) rest = alternatives_text (codes "when") g.alternatives rest

unfoldable pub clause_line : List (List ℕ) → List (List ℕ) → Clause → List ℕ
clause_line names labels c = spaced (codes "on") (pattern_text names c.pattern ∷ guard_text c.guard (target_text labels c.target))

abbrev pub after_lines : List (List ℕ) → Option After → List (List ℕ)
after_lines labels None = []
after_lines labels (Some a) = spaced (codes "after") (target_text labels a.target) ∷ []

-- the text of what an operand says, in front of the texts of those behind it
abbrev pub said_text : List (List ℕ) → List (List ℕ) → (o : Operand) → Said o → List (List ℕ) → List (List ℕ)
said_text names labels an_expr e rest = expr_text names e ∷ rest
said_text names labels a_variable x rest = x ∷ rest
said_text names labels a_label n rest = name_of_place labels n ∷ rest
said_text names labels a_switch on rest = switch_text on ∷ rest
said_text names labels a_mode mode rest = mode_text mode rest
said_text names labels (a_flag word) on rest = flag_text word on rest

-- the texts of what operands say
abbrev pub said_texts : List (List ℕ) → List (List ℕ) → (os : List Operand) → AllSaid os → List (List ℕ)
said_texts names labels [] x = []
said_texts names labels (o ∷ os) x = said_text names labels o x.0 (said_texts names labels os x.1)

-- a receive has several lines, and any other instruction has one
abbrev pub spoken_lines : List (List ℕ) → List (List ℕ) → Spoken → List (List ℕ)
spoken_lines names labels (Says v x) = spaced (word_of v) (said_texts names labels (operands_of v) x) ∷ []
spoken_lines names labels (Receives r) =
    spaced (codes "receive") (marker_text r.using) ∷ map (clause_line names labels) r.clauses ++ after_lines labels r.after ++ codes "end" ∷ []

-- the lines of an instruction, where the processes and the labels of its process have these names
unfoldable pub instr_lines : List (List ℕ) → List (List ℕ) → Instr → List (List ℕ)
instr_lines names labels i = spoken_lines names labels (spoken i)

abbrev pub label_line : Label → List ℕ
label_line l = spaced (codes "label") (l.name ∷ [])

-- the lines of the labels that stand at this place, in their order
abbrev pub labels_there : List Label → ℕ → List (List ℕ)
labels_there labels place = map label_line (filter (λ (l : Label). l.place == place) labels)

-- the instructions from this place on, each behind the labels at its place, and the labels behind the last
unfoldable pub placed_lines : List (List ℕ) → List Label → ℕ → List Instr → List (List ℕ)
placed_lines names labels place [] = labels_there labels place
placed_lines names labels place (i ∷ is) =
    labels_there labels place ++ instr_lines names (map (λ l. l.name) labels) i ++ placed_lines names labels (place + 1) is

-- In version 2 a line tells of a process that keeps its messages off its heap; otherwise there is none.
abbrev pub data_lines : Version → QueueData → List (List ℕ)
data_lines Two OffHeap = spaced (codes "message_queue_data") (codes "off_heap" ∷ []) ∷ []
data_lines Two OnHeap = []
data_lines One queue_data = []

-- the lines of a process of a script of this version
unfoldable pub process_lines : Version → List (List ℕ) → Declared → List (List ℕ)
process_lines version names p =
    (spaced (codes "process") (p.name ∷ []) ∷ data_lines version p.queue_data) ++ placed_lines names p.labels 1 p.instrs

abbrev pub names_of : List Declared → List (List ℕ)
names_of procs = map (λ (p : Declared). p.name) procs

-- the lines behind the first two
abbrev pub procs_lines : Version → List Declared → List (List ℕ)
procs_lines version procs = flat_map (process_lines version (names_of procs)) procs

abbrev pub turns_line : ℕ → List ℕ
turns_line n = spaced (codes "turns") (decimal n ∷ [])

-- the first line
abbrev pub header_line : Version → List ℕ
header_line One = codes "sigscript 1"
header_line Two = codes "sigscript 2"

-- the lines of a script
unfoldable pub script_lines : Program → List (List ℕ)
script_lines s = header_line s.version ∷ turns_line s.turns ∷ procs_lines s.version s.procs

abbrev pub line_text : List ℕ → List ℕ
line_text line = line ++ codes "\n"

-- the canonical text: each line ends with a line feed
unfoldable pub script_text : Program → List ℕ
script_text s = flat_map line_text (script_lines s)
