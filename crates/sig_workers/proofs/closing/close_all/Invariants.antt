use Rattle.std.proofs.Common.{◌≡◌, ℕ, ◌≤◌, [], length, slice_get, Some, drop}
use Rattle.sig_model.specs.Running.{Running}
use Rattle.sig_process.specs.Standing.{runnings_of}
use Rattle.sig_queue.specs.declared.account.Account.{Account}
use Rattle.sig_workers.specs.Acting.{KeepEvents}
use Rattle.sig_workers.specs.Closing.{IsClosedAt}
use Rattle.sig_workers.proofs.closing.close_all.Given as goal

abbrev pub invariant-loop-at : goal.invariant-loop-at
invariant-loop-at l = record {
  queues : l.queues.items ≡ drop l.at l.fn.queues.items;
  seats : l.seats.items ≡ drop l.at l.fn.seats.items;
  left : l.left.items ≡ [];
  count : length l.receipts ≡ l.at;
  procs : length l.procs.items ≡ length l.fn.procs.items;
  rest : (p : ℕ) → l.at ≤ p → slice_get (runnings_of l.procs.items) p ≡ slice_get (runnings_of l.fn.procs.items) p;
  kept : KeepEvents l.fn.procs.items l.procs.items;
  closed : (p : ℕ) (a : Account) (t : Running) → slice_get l.receipts p ≡ Some a → slice_get (runnings_of l.procs.items) p ≡ Some t → IsClosedAt l.fn.queues.items l.fn.seats.items (runnings_of l.fn.procs.items) p a t;
}
