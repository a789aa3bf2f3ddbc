use Rattle.std.proofs.Common.{◌≡◌, ℕ, ◌<◌, ◌≤◌, length, slice_get, Some}
use Rattle.sig_queue.specs.Seats.{Queue, Seated}
use Rattle.sig_workers.specs.Opening.{IsFreshSeat}
use Rattle.sig_workers.proofs.cutting.cut_seats.Given as goal

abbrev pub invariant-loop-at : goal.invariant-loop-at
invariant-loop-at l = record {
  many : length l.seats.items ≡ length l.queues;
  cut : length l.others.items ≡ l.at;
  rest : (p : ℕ) → l.at ≤ p → slice_get l.seats.items p ≡ slice_get l.fn.seats.items p;
  left : (p : ℕ) (v : Seated) → p < l.at → slice_get l.seats.items p ≡ Some v → (q : Queue) × (slice_get l.queues p ≡ Some q) × IsFreshSeat q 0 l.first p v;
  right : (p : ℕ) (v : Seated) → p < l.at → slice_get l.others.items p ≡ Some v → (q : Queue) × (slice_get l.queues p ≡ Some q) × IsFreshSeat q l.first l.count p v;
}
