-- What contracts see of the sinks.
use Rattle.std.specs.Prelude.{ℕ, List, Option}

-- A sink in memory: the bytes that it holds, how many it has room for, and how many writes failed.
pub record Stored : Type 0 where
  pub held : List ℕ
  pub room : ℕ
  pub faults : ℕ

-- A sink that fails: besides, the most that a write takes, the calls that fail, and how many there were.
pub record FailingStored : Type 0 where
  pub held : List ℕ
  pub room : ℕ
  pub piece : ℕ
  pub fails : List ℕ
  pub calls : ℕ
  pub faults : ℕ

-- A writer of std as a sink: the bytes that it holds, where std knows them, and the failed writes.
pub record WriterStored : Type 0 where
  pub contents : Option (List ℕ)
  pub faults : ℕ
