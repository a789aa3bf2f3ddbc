use Rattle.std.proofs.Common.{◌≡◌, ◌≤◌, take, length}
use Rattle.example_relay.specs.Relays.{Sends}
use Rattle.example_relay.proofs.relaying.send.Given as goal

abbrev pub invariant-loop : goal.invariant-loop
invariant-loop l = record {
  own : l.seat.queue ≡ l.queue.id;
  sends : Sends l.queue.setup l.line.from (take l.next l.serials) l.seat.knows;
  few : l.next ≤ length l.serials;
}
