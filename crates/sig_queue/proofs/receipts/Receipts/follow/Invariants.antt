use Rattle.sig_queue.proofs.Following.{Following}
use Rattle.sig_queue.proofs.receipts.Receipts.follow.Given as goal

abbrev pub invariant-loop-receipt : goal.invariant-loop-receipt
invariant-loop-receipt l = Following l.initial.self-inside.items.items l.initial.items.items l.self-inside.items.items l.items.items

abbrev pub decreases-loop-receipt : goal.decreases-loop-receipt
decreases-loop-receipt l = goal.left-loop-receipt l
