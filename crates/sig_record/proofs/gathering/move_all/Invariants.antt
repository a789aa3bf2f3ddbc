use Rattle.std.proofs.Common.{◌≡◌, ◌++◌, length}
use Rattle.sig_record.proofs.gathering.move_all.Given as goal

-- those so far, and those that are left, are all
abbrev pub invariant-loop-signal : goal.invariant-loop-signal
invariant-loop-signal l = l.waiting.items ++ l.signals.items ≡ l.fn.waiting.items ++ l.fn.signals.items

abbrev pub decreases-loop-signal : goal.decreases-loop-signal
decreases-loop-signal l = length l.signals.items
