use Rattle.std.proofs.Common.{◌≡◌, ◌++◌, length}
use Rattle.sig_workers.proofs.closing.gather.Given as goal

-- what was gathered and what is left is all
abbrev pub invariant-loop-signal : goal.invariant-loop-signal
invariant-loop-signal l = l.left.items ++ l.rest ≡ l.fn.rest

abbrev pub decreases-loop-signal : goal.decreases-loop-signal
decreases-loop-signal l = length l.rest
