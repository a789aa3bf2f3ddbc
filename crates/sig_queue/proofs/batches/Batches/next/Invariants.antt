use Rattle.std.proofs.Common.{◌≡◌, ◌++◌}
use Rattle.std.specs.Vec.Iter.{into_iter_items, into_iter_len}
use Rattle.sig_layout.specs.Rooms.{all_pieces}
use Rattle.sig_queue.proofs.batches.Batches.next.Given as goal

abbrev pub invariant-loop-signal : goal.invariant-loop-signal
invariant-loop-signal l = l.self-inside.current ++ all_pieces (into_iter_items l.self-inside.later) ≡ l.initial.self-inside.current ++ all_pieces (into_iter_items l.initial.self-inside.later)

abbrev pub decreases-loop-signal : goal.decreases-loop-signal
decreases-loop-signal l = into_iter_len l.self-inside.later
