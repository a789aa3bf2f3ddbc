-- What a process names beside its tables: in what an event gives, and in the signals that it keeps (Erlang Reference Manual,
-- Processes; Data Types, Pid and Reference). The owner of a reference counts as a process that is named.
use Rattle.std.specs.Prelude.{ℕ, ◌<◌, All}
use Rattle.sig_terms.specs.Names.{Named, process, IsNameBelow}
use Rattle.sig_kinds.specs.SignalNames.{names_of_kind, IsSignalBelow}
use Rattle.sig_patterns.specs.declared.expression.Expr.{Expr}
use Rattle.sig_program.specs.declared.instruction.Instr.{Instr}
use Rattle.sig_program.specs.Parts.{exprs_of, pids_of}
use Rattle.sig_program.specs.Scripts.{Declared, IsProcBelow}
use Rattle.sig_model.specs.ProcessState.{Post, TableNames}
use Rattle.sig_model.specs.Bodies.{Body}
use Rattle.sig_model.specs.Running.{Running}

module _ (P : Named → Type 0) where
  -- what holds of every name in a signal to be sent
  pub record PostNames (p : Post) : Type 0 where
    pub to : P (process p.to)
    pub kind : All P (names_of_kind p.kind)

  -- the same of what an event does
  pub record BodyNames (b : Body) : Type 0 where
    pub tables : TableNames P b.state.tables
    pub posts : All PostNames b.posts

  -- the same of the processes that the expressions of a process name
  abbrev pub ScriptNames : Declared → Type 0
  ScriptNames p = All (λ (i : Instr). All (λ (e : Expr). All (λ (q : ℕ). P (process q)) (pids_of e)) (exprs_of i)) p.instrs

-- Every process that is named in a process that runs, and in the signals that it handled, that wait for it and that it sent to
-- others, is one of the script's.
pub record IsRunningBelow (r : Running) : Type 0 where
  pub pid : r.pid < r.count
  pub proc : IsProcBelow r.count r.proc
  pub tables : TableNames (IsNameBelow r.count) r.state.tables
  pub handled : All (IsSignalBelow r.count) r.handled
  pub own : All (IsSignalBelow r.count) r.own
  pub taken_in : All (IsSignalBelow r.count) r.taken_in
  pub outbox : All (IsSignalBelow r.count) r.outbox
