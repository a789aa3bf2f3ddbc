use Rattle.std.proofs.Common.{◌≡◌, [], length}
use Rattle.sig_workers.specs.Parts.{procs_of, IsPart, IsSamePart, Grow, HavePassed}
use Rattle.sig_workers.specs.Acting.{ActBelow}
use Rattle.sig_workers.proofs.working.pass_patiently.Given as goal

abbrev pub invariant-loop-again : goal.invariant-loop-again
invariant-loop-again g l = record {
  part : IsPart l.shared.queues.now l.part;
  empty : l.fetched.items ≡ [];
  same : IsSamePart l.fn.part l.part;
  grow : Grow (procs_of l.fn.part) (procs_of l.part);
  passed : HavePassed (procs_of l.fn.part) (procs_of l.part) l.moved;
  acted : ActBelow (length l.part.procs.items) l.fn.part.procs.items l.part.procs.items;
}
