use Rattle.std.proofs.Common.{◌≡◌, ◌<◌, [], length, true}
use Rattle.std.specs.Bool.{MatchBool}
use Rattle.sig_workers.specs.Parts.{procs_of, IsPart, IsSamePart, AnyMore}
use Rattle.sig_workers.specs.Acting.{ActBelow}
use Rattle.sig_workers.proofs.working.work_with.Given as goal

abbrev pub invariant-loop-pass : goal.invariant-loop-pass
invariant-loop-pass g l = record {
  part : IsPart l.shared.queues.now l.part;
  empty : l.fetched.items ≡ [];
  same : IsSamePart l.fn.part l.part;
  first : 0 < l._pass → l.moved ≡ true;
  acted : l.moved ≡ true → ActBelow (length l.part.procs.items) l.fn.part.procs.items l.part.procs.items;
  passed : MatchBool l.moved (AnyMore (procs_of l.fn.part) (procs_of l.part)) (l.part ≡ l.fn.part);
}
