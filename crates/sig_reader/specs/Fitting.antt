-- The bounds that hold while a text is read.
use Rattle.std.specs.Prelude.{ℕ, ◌≤◌, length, All}
use Rattle.sig_reader.specs.declared.draft.Draft.{Draft}
use Rattle.sig_program.specs.Scripts.{Declared, most_processes}
use Rattle.sig_reader.specs.Drafts.{all_procs}

-- a process has at most so many instructions and labels
pub record IsSmall (n : ℕ) (p : Declared) : Type 0 where
  pub instrs : length p.instrs ≤ n
  pub labels : length p.labels ≤ n

-- the bounds before line n
pub record IsFit (n : ℕ) (d : Draft) : Type 0 where
  pub few : length (all_procs d) ≤ most_processes d.version
  pub small : All (IsSmall n) (all_procs d)
