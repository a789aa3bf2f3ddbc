use Rattle.std.proofs.Common.{◌≡◌}
use Rattle.sig_layout.specs.Core.{some_refused}
use Rattle.sig_queue.specs.Removing.{waited}
use Rattle.sig_queue.proofs.Waiting.{RefusedOuter}
use Rattle.sig_queue.proofs.remove.wait_outer.Given as goal

abbrev pub invariant-loop : goal.invariant-loop
invariant-loop g l = record {
  table : l.place.table_id ≡ l.initial.place.table_id;
  id : l.place.id ≡ l.initial.place.id;
  me : l.place.me ≡ (waited l.initial.place.me.0 l.place.me.0, l.initial.place.me.1);
  refused : l.refused ≡ some_refused l.place.me.0.refused;
  so_far : RefusedOuter l.initial.place.me.0 l.place.me.0;
}
