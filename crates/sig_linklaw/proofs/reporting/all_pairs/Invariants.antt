use Rattle.std.proofs.Common.{◌≡◌, ◌++◌, drop}
use Rattle.std.specs.List.{flat_map}
use Rattle.sig_process.specs.Standing.{runnings_of}
use Rattle.sig_linklaw.specs.LinkReport.{pairs_of, linked_pairs}
use Rattle.sig_linklaw.proofs.reporting.all_pairs.Given as goal

-- the pairs so far, and those of the processes that are left, are all
abbrev pub invariant-loop-one : goal.invariant-loop-one
invariant-loop-one l =
    l.pairs ++ flat_map (λ r. pairs_of r (runnings_of l.procs)) (runnings_of (drop l.one-index l.procs)) ≡ linked_pairs (runnings_of l.procs)
