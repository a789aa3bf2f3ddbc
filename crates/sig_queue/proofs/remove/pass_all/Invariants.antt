use Rattle.std.proofs.Common.{◌≡◌}
use Rattle.sig_queue.specs.Removing.{Passing, WithRoom, WaitedOneByOne}
use Rattle.sig_queue.proofs.remove.pass_all.Given as goal

abbrev pub invariant-loop-buffer : goal.invariant-loop-buffer
invariant-loop-buffer g l = record {
  table : l.place.table_id ≡ l.initial.place.table_id;
  id : l.place.id ≡ l.initial.place.id;
  passing : Passing l.initial.place.me.0 l.buffer l.place.me l.growing.list;
  room : WithRoom l.buffer l.growing;
  tries : WaitedOneByOne l.buffer l.initial.place.me.0 l.place.me.0;
}
