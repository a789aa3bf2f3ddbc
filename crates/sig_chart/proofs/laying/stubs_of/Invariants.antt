use Rattle.std.proofs.Common.{◌≡◌, ◌++◌, drop}
use Rattle.std.specs.List.{flat_map}
use Rattle.sig_chart.specs.Shapes.{stubs_of}
use Rattle.sig_chart.proofs.laying.stubs_of.Given as goal

-- the arrows so far, and those of the processes that are left, are all
abbrev pub invariant-loop-report : goal.invariant-loop-report
invariant-loop-report l =
    l.stubs ++ flat_map (stubs_of l.window l.sources.origins.now l.sources.shown.now) (drop l.report-index l.sources.reports.now) ≡ flat_map (stubs_of l.window l.sources.origins.now l.sources.shown.now) l.sources.reports.now
