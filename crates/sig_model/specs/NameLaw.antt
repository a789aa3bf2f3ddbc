-- What every run keeps of the names in processes and signals (Erlang Reference Manual, Data Types, Pid and Reference; that pids are
-- numbers from 0, and that a reference has an owner, is this project's own).
use Rattle.std.specs.Prelude.{ℕ, ◌<◌}
use Rattle.sig_terms.specs.Names.{IsNameBelow}
use Rattle.sig_kinds.specs.declared.signal.Signal.{Signal}
use Rattle.sig_kinds.specs.SignalNames.{IsSignalBelow}
use Rattle.sig_runs.specs.Everywhere.{Facts}
use Rattle.sig_model.specs.ProcessState.{ProcessState, TableNames}

-- the process pid is one of so many, and so is each process that is named in its tables, the owner of a reference too
pub record IsStateBelow (count pid : ℕ) (s : ProcessState) : Type 0 where
  pub below : pid < count
  pub tables : TableNames (IsNameBelow count) s.tables

-- the same of each process, and of all that a signal names
abbrev pub names_below : ℕ → Facts ProcessState Signal
names_below count = record { of_state = IsStateBelow count; of_signal = IsSignalBelow count }
