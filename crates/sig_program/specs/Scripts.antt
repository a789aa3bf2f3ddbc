-- Scripts and their processes, as contracts see them.
use Rattle.std.specs.Prelude.{◌≡◌, ◌≢◌, ℕ, ◌+◌, ◌<◌, ◌≤◌, ◌^◌, List, [], ◌∷◌, length, All, IfSome, true, Option, Some}
use Rattle.sig_kinds.specs.declared.alias_mode.AliasMode.TheVariants as alias_mode
use Rattle.sig_kinds.specs.declared.queue_data.QueueData.{QueueData}
use Rattle.sig_patterns.specs.declared.clause.Clause.{Clause}
use Rattle.sig_patterns.specs.declared.expression.Expr.{Expr}
use Rattle.sig_patterns.specs.declared.pattern.Pattern.{Pattern}
use Rattle.sig_patterns.specs.declared.var.Var.{Var}
use Rattle.sig_patterns.specs.Pinning.{pins}
use Rattle.sig_program.specs.declared.label.Label.{Label}
use Rattle.sig_program.specs.declared.instruction.Instr.{Instr}
use Rattle.sig_program.specs.declared.version.Version.{Version}
use Rattle.sig_program.specs.declared.version.Version.TheVariants.{One, Two}
use Rattle.sig_program.specs.Parts.{exprs_of, using_of, clauses_of, targets_of, mode_in, pids_of, pids_of_pattern}
use Rattle.sig_program.specs.declared.script.TheConstants.{MOST_TURNS}

-- a process: its name, where it keeps its messages, its labels and what it does
pub record Declared : Type 0 where
  pub name : List ℕ
  pub queue_data : QueueData
  pub labels : List Label
  pub instrs : List Instr

-- one of this name that has no label and does nothing
abbrev pub bare_process : QueueData → List ℕ → Declared
bare_process queue_data name = record { name = name; queue_data = queue_data; labels = []; instrs = [] }

-- a script: the version of its language, how many instructions each process may execute, and the processes
pub record Program : Type 0 where
  pub version : Version
  pub turns : ℕ
  pub procs : List Declared

-- where a receive has a marker, each of its clauses has the marker's variable pinned in its pattern
abbrev pub AreMarked : Option Var → List Clause → Type 0
AreMarked using clauses = IfSome using (λ x. All (λ (c : Clause). pins c.pattern x ≡ true) clauses)

-- Each target of an instruction is one of so many labels, counted from 0, and a receive has fewer than 2^32 clauses. An alias that
-- is a monitor too never has the mode of a reply alone. Each clause of a receive with a marker pins its variable.
abbrev pub IsInstrWithin : ℕ → Instr → Type 0
IsInstrWithin labels i =
    (length (clauses_of i) < 2 ^ 32) × All (λ target. target < labels) (targets_of i) × (mode_in i ≢ Some alias_mode.Reply)
    × AreMarked (using_of i) (clauses_of i)

-- a label stands before one of so many instructions, or behind the last
abbrev pub IsPlace : ℕ → Label → Type 0
IsPlace instrs label = (1 ≤ label.place) × (label.place ≤ instrs + 1)

-- the labels' places never fall
pub data AreRising : List Label → Type 0 where
  none : AreRising []
  more : {label : Label} {labels : List Label} → All (λ (other : Label). label.place ≤ other.place) labels → AreRising labels → AreRising (label ∷ labels)

-- the bounds that each process keeps
pub record IsWithin (p : Declared) : Type 0 where
  pub few_instrs : length p.instrs + 1 < 2 ^ 32
  pub few_labels : length p.labels < 2 ^ 32
  pub places : All (IsPlace (length p.instrs)) p.labels
  pub rising : AreRising p.labels
  pub lawful : All (IsInstrWithin (length p.labels)) p.instrs

-- each pid in an expression is below so many
abbrev pub IsExprBelow : ℕ → Expr → Type 0
IsExprBelow count e = All (λ pid. pid < count) (pids_of e)

-- the same of a pattern
abbrev pub IsPatternBelow : ℕ → Pattern → Type 0
IsPatternBelow count p = All (λ pid. pid < count) (pids_of_pattern p)

-- the same of an instruction: of its expressions, and of the patterns of its clauses
abbrev pub IsInstrBelow : ℕ → Instr → Type 0
IsInstrBelow count i = All (IsExprBelow count) (exprs_of i) × All (λ (c : Clause). IsPatternBelow count c.pattern) (clauses_of i)

-- the same of a process
abbrev pub IsProcBelow : ℕ → Declared → Type 0
IsProcBelow count p = All (IsInstrBelow count) p.instrs

-- how many processes a script of this version may have
abbrev pub most_processes : Version → ℕ
most_processes One = 64
most_processes Two = 256

-- the bounds that each script keeps
pub record IsScriptWithin (s : Program) : Type 0 where
  pub few : length s.procs ≤ most_processes s.version
  pub turns : s.turns ≤ MOST_TURNS
  pub pids : All (IsProcBelow (length s.procs)) s.procs
