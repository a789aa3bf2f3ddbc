use Rattle.std.proofs.Common.{◌≡◌, drop}
use Rattle.sig_chart.specs.Finding.{row_of}
use Rattle.sig_chart.proofs.finding.row_of.Given as goal

-- none of the events so far is the one that is looked for
abbrev pub invariant-loop-row : goal.invariant-loop-row
invariant-loop-row l = row_of l.row (drop l.row l.shown) l.pid l.event ≡ row_of 0 l.shown l.pid l.event
