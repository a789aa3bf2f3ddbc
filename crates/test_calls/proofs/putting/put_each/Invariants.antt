use Rattle.std.proofs.Common.{◌≡◌, length}
use Rattle.sig_layout.specs.Sent.{putter, of}
use Rattle.test_calls.proofs.putting.put_each.Given as goal

abbrev pub invariant-loop : goal.invariant-loop
invariant-loop l = record {
  own : l.seat.queue ≡ l.queue.id;
  senders : l.seat.knows.senders ≡ l.initial.seat.knows.senders;
  count : l.next ≡ length (of putter l.line.from.0 l.seat.knows.put);
}
