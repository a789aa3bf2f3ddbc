-- The parts of an instruction, and the pids in them.
use Rattle.std.specs.Prelude.{ℕ, Bool, List, [], ◌∷◌, ◌++◌, All, Option, None, filter_map, option_to_list}
use Rattle.sig_kinds.specs.declared.alias_mode.AliasMode.{AliasMode}
use Rattle.sig_patterns.specs.declared.clause.Clause.{Clause}
use Rattle.sig_patterns.specs.declared.var.Var.{Var}
use Rattle.sig_patterns.specs.declared.expression.Expr.{Expr}
use Rattle.sig_patterns.specs.declared.pattern.Pattern.{Pattern}
use Rattle.sig_patterns.specs.Pids.{IsExprAmong}
pub use Rattle.sig_patterns.specs.Pids.{expr_pids, pids_of, pids_of_pattern}
use Rattle.sig_program.specs.declared.instruction.After.{After}
use Rattle.sig_program.specs.declared.instruction.Instr.{Instr}
use Rattle.sig_program.specs.Instructions.{Operand, an_expr, a_variable, a_label, a_mode, AllSaid, operands_of, Spoken, Says, Receives, spoken}

-- a clause with nothing but a pattern and where it goes on
abbrev pub plain_clause : Pattern → Option ℕ → Clause
plain_clause pattern target = record { pattern = pattern; guard = None; target = target }

-- the expressions among operands
abbrev pub said_exprs : (os : List Operand) → AllSaid os → List Expr
said_exprs [] x = []
said_exprs (an_expr ∷ os) x = x.0 ∷ said_exprs os x.1
said_exprs (_ ∷ os) x = said_exprs os x.1

-- the variables among operands
abbrev pub said_vars : (os : List Operand) → AllSaid os → List (List ℕ)
said_vars [] x = []
said_vars (a_variable ∷ os) x = x.0 ∷ said_vars os x.1
said_vars (_ ∷ os) x = said_vars os x.1

-- the labels among operands
abbrev pub said_labels : (os : List Operand) → AllSaid os → List ℕ
said_labels [] x = []
said_labels (a_label ∷ os) x = x.0 ∷ said_labels os x.1
said_labels (_ ∷ os) x = said_labels os x.1

-- the mode of a monitor's alias among operands
abbrev pub said_mode : (os : List Operand) → AllSaid os → Option AliasMode
said_mode [] x = None
said_mode (a_mode ∷ os) x = x.0
said_mode (_ ∷ os) x = said_mode os x.1

abbrev pub exprs_in : Spoken → List Expr
exprs_in (Says v x) = said_exprs (operands_of v) x
exprs_in (Receives r) = []

-- the expressions of an instruction, in the order of its line
abbrev pub exprs_of : Instr → List Expr
exprs_of i = exprs_in (spoken i)

-- each process that stands in an expression of an instruction is known
abbrev pub IsInstrAmong : List Bool → Instr → Type 0
IsInstrAmong known i = All (IsExprAmong known) (exprs_of i)

abbrev pub vars_in : Spoken → List (List ℕ)
vars_in (Says v x) = said_vars (operands_of v) x
vars_in (Receives r) = []

-- the names of the variables that an instruction sets, makes or names; the variable of a marker is none of them
abbrev pub vars_of : Instr → List (List ℕ)
vars_of i = vars_in (spoken i)

abbrev pub using_in : Spoken → Option Var
using_in (Says v x) = None
using_in (Receives r) = r.using

-- the variable of a receive's marker
abbrev pub using_of : Instr → Option Var
using_of i = using_in (spoken i)

abbrev pub clauses_in : Spoken → List Clause
clauses_in (Says v x) = []
clauses_in (Receives r) = r.clauses

-- the clauses of a receive
abbrev pub clauses_of : Instr → List Clause
clauses_of i = clauses_in (spoken i)

abbrev pub targets_in : Spoken → List ℕ
targets_in (Says v x) = said_labels (operands_of v) x
targets_in (Receives r) =
    filter_map (λ (c : Clause). c.target) r.clauses ++ filter_map (λ (a : After). a.target) (option_to_list r.after)

-- the labels at which a process may go on behind an instruction, by their places among its labels
abbrev pub targets_of : Instr → List ℕ
targets_of i = targets_in (spoken i)

abbrev pub mode_by : Spoken → Option AliasMode
mode_by (Says v x) = said_mode (operands_of v) x
mode_by (Receives r) = None

-- the mode of a monitor's alias
abbrev pub mode_in : Instr → Option AliasMode
mode_in i = mode_by (spoken i)
