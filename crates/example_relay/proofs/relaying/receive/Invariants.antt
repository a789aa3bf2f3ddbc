use Rattle.std.proofs.Common.{◌≡◌}
use Rattle.example_relay.specs.Relays.{Receives}
use Rattle.example_relay.proofs.relaying.receive.Given as goal

abbrev pub invariant-loop : goal.invariant-loop
invariant-loop g l = record {
  own : l.seat.queue ≡ l.queue.id;
  receives : Receives l.into.items l.seat.knows;
}
