use Rattle.std.proofs.Common.{◌≡◌, ◌++◌, take, drop}
use Rattle.sig_queue.proofs.fetch_find.bring_front.Given as goal

abbrev pub invariant-loop : goal.invariant-loop
invariant-loop l = record {
  table : l.place.table_id ≡ l.initial.place.table_id;
  id : l.place.id ≡ l.initial.place.id;
  me : l.place.me ≡ (l.initial.place.me.0, drop l.counter l.initial.place.me.1 ++ take l.counter l.initial.place.me.1);
}
