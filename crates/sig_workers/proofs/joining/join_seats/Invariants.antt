use Rattle.std.proofs.Common.{◌≡◌, ℕ, ◌<◌, ◌≤◌, length, slice_get, Some, take}
use Rattle.sig_queue.specs.Seats.{Seated}
use Rattle.sig_workers.specs.Parts.{IsJoined}
use Rattle.sig_workers.proofs.joining.join_seats.Given as goal

abbrev pub invariant-loop-other : goal.invariant-loop-other
invariant-loop-other l = record {
  many : length l.seats.items ≡ length l.fn.seats.items;
  left : l.others.items ≡ take (length l.others.items) l.fn.others.items;
  rest : (p : ℕ) → p < length l.others.items → slice_get l.seats.items p ≡ slice_get l.fn.seats.items p;
  done : (p : ℕ) (w : Seated) → length l.others.items ≤ p → slice_get l.seats.items p ≡ Some w → (v : Seated) × (u : Seated) × (slice_get l.fn.seats.items p ≡ Some v) × (slice_get l.fn.others.items p ≡ Some u) × IsJoined v u w;
}

abbrev pub decreases-loop-other : goal.decreases-loop-other
decreases-loop-other l = length l.others.items
