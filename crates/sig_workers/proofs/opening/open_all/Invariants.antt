use Rattle.sig_process.specs.Standing.{runnings_of}
use Rattle.std.proofs.Common.{◌≡◌, ℕ, ◌+◌, ◌<◌, [], length}
use Rattle.std.specs.Prelude.{slice_index_or}
use Rattle.sig_workers.specs.Columns.{IsColumn}
use Rattle.sig_workers.specs.Opening.{AreOpened}
use Rattle.sig_workers.proofs.opening.open_all.Given as goal

abbrev pub invariant-loop-at : goal.invariant-loop-at
invariant-loop-at l = record {
  many : length l.queues.items ≡ l.at;
  left : l.at + length l.columns.items ≡ length l.procs;
  columns : (k : ℕ) → l.at + k < length l.procs → IsColumn (length l.procs) (l.at + k) (runnings_of l.procs) (slice_index_or l.columns.items k []);
  opened : AreOpened l.policy (runnings_of l.procs) l.queues.items l.seats.items;
}
