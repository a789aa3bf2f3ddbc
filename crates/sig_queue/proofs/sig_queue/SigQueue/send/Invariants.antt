use Rattle.std.proofs.Common.{◌≡◌}
use Rattle.sig_queue.specs.Calls.{TurnedAway}
use Rattle.sig_queue.proofs.sig_queue.SigQueue.send.Given as goal

abbrev pub invariant-loop : goal.invariant-loop
invariant-loop g l = record {
  own : l.seat.queue ≡ l.initial.seat.queue;
  signal : l.signal ≡ l.initial.signal;
  turned_away : TurnedAway l.initial.signal l.initial.seat.knows l.seat.knows;
}
