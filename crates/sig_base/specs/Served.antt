-- What contracts see of the sources.
use Rattle.std.specs.Prelude.{ℕ, List, Option}
use Rattle.sig_base.specs.declared.end.End.{End}

-- A source in memory: the bytes that are left, the most that a read gives, and how the reads stand to the end.
pub record Served : Type 0 where
  pub left : List ℕ
  pub piece : ℕ
  pub end : End

-- A source that fails: besides, the calls that fail, how many calls there were, and how many failed.
pub record FailingServed : Type 0 where
  pub left : List ℕ
  pub piece : ℕ
  pub fails : List ℕ
  pub calls : ℕ
  pub faults : ℕ
  pub end : End

-- A reader of std as a source: the bytes that it has left, where std knows them, the failed reads, and how the reads stand to the end.
pub record ReaderServed : Type 0 where
  pub remaining : Option (List ℕ)
  pub faults : ℕ
  pub end : End
