use Rattle.std.proofs.Common.{◌≡◌, ◌≤◌, ◌<◌, All, length, take}
use Rattle.sig_workers.specs.Opening.{AreFresh}
use Rattle.sig_workers.specs.Rows.{FreshRow}
use Rattle.sig_workers.proofs.cutting.make_parts.Given as goal

abbrev pub invariant-loop-base : goal.invariant-loop-base
invariant-loop-base l = record {
  left : l.procs.items ≡ take (length l.procs.items) l.fn.procs.items;
  few : length l.procs.items ≤ length l.fn.procs.items;
  fresh : AreFresh l.queues 0 (length l.procs.items) l.seats.items;
  row : FreshRow l.queues l.fn.procs.items (length l.procs.items) (length l.fn.procs.items) l.parts.items;
  all : All (λ b. b.crew.value.items ≡ l.fn.procs.items) l.bases.items;
  few_left : length l.bases.items ≤ l.fn.workers;
  some : length l.bases.items ≡ 0 → 0 < length l.parts.items;
  none : length l.bases.items ≡ 0 → length l.procs.items ≡ 0;
}

abbrev pub decreases-loop-base : goal.decreases-loop-base
decreases-loop-base l = length l.bases.items
