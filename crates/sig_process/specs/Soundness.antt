-- What holds of every process.
use Rattle.std.specs.Prelude.{◌≡◌, ℕ, ◌-◌, slice_get, Option, Some, IsSome}
use Rattle.sig_patterns.specs.Environment.{Environment}
use Rattle.sig_patterns.specs.Inbox.{start_of}
use Rattle.sig_inner.specs.InnerQueue.{InnerQueue}
use Rattle.sig_inner.specs.Receiving.{HasPassed, passed}
use Rattle.sig_program.specs.declared.instruction.Instr.{Instr}
use Rattle.sig_program.specs.declared.instruction.Instr.TheVariants as instr
use Rattle.sig_program.specs.Scripts.{Declared}
use Rattle.sig_model.specs.Executing.{using_ref}
use Rattle.sig_model.specs.Keeping.{IsKeeping}
use Rattle.sig_process.specs.declared.progress.Progress.{Progress}
use Rattle.sig_process.specs.Progressing.{running_of}

-- Where the instruction is a receive, none of its clauses takes a message from its mark's start up to the saved place. Where no
-- place is saved this holds of every instruction.
abbrev pub HasPassedAt : Option Instr → InnerQueue → Environment → Type 0
HasPassedAt (Some (instr.Receive r)) queue env = HasPassed queue (start_of queue.inbox (using_ref env r.using)) r.clauses env
HasPassedAt _ queue env = Unit {0}

-- the place that the last scan has saved
pub record IsSaved (instr : Option Instr) (p : Progress) : Type 0 where
  -- it is one of the receive at the process's place, with these values of the variables
  pub none : HasPassedAt instr p.tables.inner.queue p.tables.env
  -- a process that has ended has none
  pub ended : IsSome p.tables.end → passed p.tables.inner.queue.last ≡ 0

pub record IsSound (pid count turns : ℕ) (proc : Declared) (p : Progress) : Type 0 where
  -- it keeps what every running process keeps
  pub keeps : IsKeeping (running_of pid count turns proc p)
  pub owner : p.tables.inner.queue.owner ≡ pid
  pub saved : IsSaved (slice_get proc.instrs (p.counts.place - 1)) p
