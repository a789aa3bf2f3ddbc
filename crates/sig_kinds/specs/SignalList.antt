-- What contracts see of a list of signals.
use Rattle.std.specs.Prelude.{ℕ, List}
use Rattle.sig_kinds.specs.declared.signal.Signal.{Signal}

pub record SignalList : Type 0 where
  -- the signals, the oldest first
  pub items : List Signal
  -- how many more it has room for; what is said to stay as before never speaks of this
  pub spare : ℕ
