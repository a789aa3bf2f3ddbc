use Rattle.std.proofs.Common.{◌≡◌, ◌++◌, drop}
use Rattle.sig_chart.specs.Shapes.{mark_at, by_rows}
use Rattle.sig_chart.proofs.laying.marks_of.Given as goal

-- the marks so far, and those of the rows that are left, are all
abbrev pub invariant-loop-row : goal.invariant-loop-row
invariant-loop-row l = l.marks ++ by_rows (mark_at l.reports) l.row (drop l.row l.shown) ≡ by_rows (mark_at l.reports) 0 l.shown
