-- How a signal is added to a list.
use Rattle.std.specs.Prelude.{◌≡◌, ◌+◌, ◌≤◌, [], ◌∷◌, ◌++◌}
use Rattle.sig_kinds.specs.declared.signal.Signal.{Signal}
use Rattle.sig_kinds.specs.declared.signals.Push.{Push}
use Rattle.sig_kinds.specs.declared.signals.Push.TheVariants.{Added, Memory}
use Rattle.sig_kinds.specs.SignalList.{SignalList}

-- the signal is at the end, and has taken the room of one at most; or there was no room, it comes back, and the signals are as before
abbrev pub IsPush : SignalList → SignalList → Signal → Push → Type 0
IsPush before after signal Added = (after.items ≡ before.items ++ signal ∷ []) × (before.spare ≤ after.spare + 1)
IsPush before after signal (Memory back) = (after.items ≡ before.items) × (back ≡ signal) × (before.spare ≡ 0)
