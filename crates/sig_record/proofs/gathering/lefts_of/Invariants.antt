use Rattle.std.proofs.Common.{◌≡◌, ◌++◌, map, length}
use Rattle.sig_record.specs.RecordOf.{left_of}
use Rattle.sig_record.proofs.gathering.lefts_of.Given as goal

-- those so far, and what is left of the others, are all
abbrev pub invariant-loop-arrival : goal.invariant-loop-arrival
invariant-loop-arrival l = l.lefts.items ++ map left_of l.inner.queue.inbox.messages ≡ map left_of l.fn.inner.queue.inbox.messages

abbrev pub decreases-loop-arrival : goal.decreases-loop-arrival
decreases-loop-arrival l = length l.inner.queue.inbox.messages
