-- How a signal of another process arrives.
use Rattle.std.specs.Prelude.{◌≡◌}
use Rattle.sig_kinds.specs.declared.signal.Signal.{Signal}
use Rattle.sig_kinds.specs.declared.signals.Push.{Push}
use Rattle.sig_kinds.specs.declared.signals.Push.TheVariants.{Added, Memory}
use Rattle.sig_model.specs.OneWorker.{arrived}
use Rattle.sig_process.specs.Standing.{Standing}

-- It waits behind the others; or there is no memory for it, and the signal comes back (this project's own).
abbrev pub IsArrival : Standing → Standing → Signal → Push → Type 0
IsArrival before after signal Added = after ≡ record before { running = arrived before.running signal }
IsArrival before after signal (Memory back) = (after ≡ before) × (back ≡ signal)
