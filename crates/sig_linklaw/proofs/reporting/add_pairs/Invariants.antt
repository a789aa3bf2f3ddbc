use Rattle.std.proofs.Common.{◌≡◌, ◌++◌, drop}
use Rattle.sig_process.specs.Standing.{runnings_of}
use Rattle.sig_linklaw.specs.LinkReport.{pairs_of}
use Rattle.sig_linklaw.proofs.reporting.add_pairs.Given as goal

-- the pairs so far, and those of the processes that are left, are all
abbrev pub invariant-loop-other : goal.invariant-loop-other
invariant-loop-other l =
    l.pairs ++ pairs_of l.one.running (runnings_of (drop l.other-index l.others)) ≡ l.fn.pairs ++ pairs_of l.one.running (runnings_of l.others)
