use Rattle.std.proofs.Common.{◌≡◌, ◌++◌, drop, map}
use Rattle.sig_chart.specs.Shapes.{lane_of}
use Rattle.sig_chart.proofs.laying.lanes_of.Given as goal

-- the lanes so far, and those of the processes that are left, are all
abbrev pub invariant-loop-report : goal.invariant-loop-report
invariant-loop-report l = l.lanes ++ map lane_of (drop l.report-index l.reports) ≡ map lane_of l.reports
