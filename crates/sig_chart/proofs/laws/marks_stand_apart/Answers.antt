use Rattle.sig_chart.proofs.MarkLemmas.{apart, one_each, marks_of_rows}
use Rattle.sig_chart.proofs.ThereLemmas.{shown_there}
use Rattle.sig_chart.proofs.laws.marks_stand_apart.Goals as goal

pub returns-clause-apart : goal.returns-clause-apart
returns-clause-apart c = λ w g. apart g.reports 0 g.shown

pub returns-clause-each : goal.returns-clause-each
returns-clause-each c = λ w g shown. one_each g.reports 0 g.shown (shown_there g.reports w g.shown shown)

pub returns-clause-of : goal.returns-clause-of
returns-clause-of c = λ w g. marks_of_rows g
