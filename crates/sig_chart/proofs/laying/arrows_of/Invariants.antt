use Rattle.std.proofs.Common.{◌≡◌, ◌++◌, drop}
use Rattle.sig_chart.specs.Shapes.{ground_of, arrow_at, by_rows}
use Rattle.sig_chart.proofs.laying.arrows_of.Given as goal

-- the arrows so far, and those of the rows that are left, are all
abbrev pub invariant-loop-row : goal.invariant-loop-row
invariant-loop-row l =
    l.arrows ++ by_rows (arrow_at (ground_of l.sources)) l.row (drop l.row l.sources.shown.now)
    ≡ by_rows (arrow_at (ground_of l.sources)) 0 l.sources.shown.now
