use Rattle.std.proofs.Common.{◌≡◌, ◌≤◌, ◌++◌, length, true, ◌<◌, ◌-◌}
use Rattle.sig_layout.specs.declared.layout.TheConstants.{BUFFERS}
use Rattle.sig_layout.specs.Views.{filled_at}
use Rattle.sig_queue.specs.Fetching.{Standing, Emptying, all_of}
use Rattle.sig_queue.proofs.fetch_settle.empty_all.Given as goal

abbrev pub invariant-loop-buffer : goal.invariant-loop-buffer
invariant-loop-buffer l = record {
  table : l.place.table_id ≡ l.initial.place.table_id;
  id : l.place.id ≡ l.initial.place.id;
  standing : Standing l.held l.buffer l.place.me l.buffers;
  emptying : Emptying l.initial.place.me.0 l.place.me;
  fetching : l.place.me.0.fetching ≡ true;
  moved : l.into.items ++ all_of l.place.me.0.parts ≡ l.initial.into.items ++ all_of l.initial.place.me.0.parts;
  left : l.left ≡ length (all_of l.place.me.0.parts);
  room : l.left ≤ l.into.spare;
  within : l.buffer ≤ BUFFERS;
  set : l.buffer < BUFFERS → filled_at l.held l.buffer ≡ true;
}

abbrev pub decreases-loop-buffer : goal.decreases-loop-buffer
decreases-loop-buffer l = 64 - l.buffer
