use Rattle.std.proofs.Common.{◌≡◌, ℕ, ◌≤◌, [], length, slice_get}
use Rattle.std.specs.Bool.{MatchBool}
use Rattle.sig_workers.specs.Parts.{procs_of, IsPart, IsSamePart, Grow, AnyMore, StillBelow}
use Rattle.sig_workers.specs.Acting.{ActBelow}
use Rattle.sig_workers.proofs.working.pass.Given as goal

abbrev pub invariant-loop-at : goal.invariant-loop-at
invariant-loop-at g l = record {
  many : length l.part.procs.items ≡ length l.fn.part.procs.items;
  part : IsPart l.shared.queues.now l.part;
  empty : l.fetched.items ≡ [];
  same : IsSamePart l.fn.part l.part;
  grow : Grow (procs_of l.fn.part) (procs_of l.part);
  rest : (i : ℕ) → l.at ≤ i → slice_get (procs_of l.part) i ≡ slice_get (procs_of l.fn.part) i;
  stand : (i : ℕ) → l.at ≤ i → slice_get l.part.procs.items i ≡ slice_get l.fn.part.procs.items i;
  acted : ActBelow l.at l.fn.part.procs.items l.part.procs.items;
  passed : MatchBool l.moved (AnyMore (procs_of l.fn.part) (procs_of l.part)) (StillBelow l.at (procs_of l.fn.part) (procs_of l.part));
}
