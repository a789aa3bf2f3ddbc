use Rattle.std.proofs.Common.{◌≡◌, ◌+◌}
use Rattle.sig_queue.specs.Removing.{waits}
use Rattle.sig_queue.proofs.Waiting.{Refused}
use Rattle.sig_queue.proofs.remove.wait_buffer.Given as goal

abbrev pub invariant-loop : goal.invariant-loop
invariant-loop g l = record {
  table : l.place.table_id ≡ l.initial.place.table_id;
  id : l.place.id ≡ l.initial.place.id;
  me : l.place.me ≡ (waits l.initial.place.me.0 l.place.me.0, l.initial.place.me.1);
  so_far : Refused (l.buffer + 3) l.initial.place.me.0 l.place.me.0;
}
