use Rattle.std.proofs.Common.{◌≡◌, ◌<◌, ◌≤◌, ◌-◌, true}
use Rattle.sig_layout.specs.declared.layout.TheConstants.{BUFFERS}
use Rattle.sig_layout.specs.Views.{filled_at}
use Rattle.sig_queue.specs.Fetching.{Finding}
use Rattle.sig_queue.proofs.fetch_find.find_all.Given as goal

abbrev pub invariant-loop-buffer : goal.invariant-loop-buffer
invariant-loop-buffer l = record {
  table : l.place.table_id ≡ l.initial.place.table_id;
  id : l.place.id ≡ l.initial.place.id;
  found : Finding l.initial.place.me.0 l.bits l.buffer l.place.me l.found;
  within : l.buffer ≤ BUFFERS;
  set : l.buffer < BUFFERS → filled_at l.bits l.buffer ≡ true;
}

abbrev pub decreases-loop-buffer : goal.decreases-loop-buffer
decreases-loop-buffer l = 64 - l.buffer
