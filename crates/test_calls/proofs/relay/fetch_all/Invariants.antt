use Rattle.std.proofs.Common.{◌≡◌, true}
use Rattle.test_calls.proofs.relay.fetch_all.Given as goal

abbrev pub invariant-loop : goal.invariant-loop
invariant-loop l = record {
  own : l.seat.queue ≡ l.queue.id;
  role : l.seat.knows.role ≡ true;
}
