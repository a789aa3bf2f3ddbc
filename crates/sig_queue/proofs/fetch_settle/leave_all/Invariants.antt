use Rattle.std.proofs.Common.{◌≡◌, ◌<◌, ◌≤◌, ◌-◌, true}
use Rattle.sig_layout.specs.declared.layout.TheConstants.{BUFFERS}
use Rattle.sig_layout.specs.Views.{filled_at}
use Rattle.sig_queue.specs.Fetching.{Standing, Leaving}
use Rattle.sig_queue.proofs.fetch_settle.leave_all.Given as goal

abbrev pub invariant-loop-buffer : goal.invariant-loop-buffer
invariant-loop-buffer l = record {
  table : l.place.table_id ≡ l.initial.place.table_id;
  id : l.place.id ≡ l.initial.place.id;
  standing : Standing l.held l.buffer l.place.me l.left;
  leaving : Leaving l.initial.place.me.0 l.place.me;
  within : l.buffer ≤ BUFFERS;
  set : l.buffer < BUFFERS → filled_at l.held l.buffer ≡ true;
}

abbrev pub decreases-loop-buffer : goal.decreases-loop-buffer
decreases-loop-buffer l = 64 - l.buffer
