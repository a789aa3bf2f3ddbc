use Rattle.std.proofs.Common.{◌≡◌, ◌++◌, drop}
use Rattle.std.specs.List.{filter}
use Rattle.sig_chart.specs.Shown.{is_shown}
use Rattle.sig_chart.proofs.window.shown_of.Given as goal

-- the events so far, and those of the window among the ones that are left, are all
abbrev pub invariant-loop-at : goal.invariant-loop-at
invariant-loop-at l = l.shown.items ++ filter (is_shown l.reports l.window) (drop l.at-index l.order) ≡ filter (is_shown l.reports l.window) l.order
