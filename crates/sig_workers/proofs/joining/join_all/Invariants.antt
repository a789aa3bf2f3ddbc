use Rattle.sig_workers.specs.Parts.{procs_of}
use Rattle.std.proofs.Common.{length}
use Rattle.sig_workers.specs.Rows.{DoneRow, IsWhole}
use Rattle.sig_workers.proofs.joining.join_all.Given as goal

abbrev pub invariant-loop-done : goal.invariant-loop-done
invariant-loop-done l = record {
  whole : IsWhole l.queues l.base.crew.value.items (length (procs_of l.whole.part)) l.whole;
  row : DoneRow l.queues l.base.crew.value.items (length (procs_of l.whole.part)) (length l.base.crew.value.items) l.done.items;
}

abbrev pub decreases-loop-done : goal.decreases-loop-done
decreases-loop-done l = length l.done.items
