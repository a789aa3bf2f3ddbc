use Rattle.sig_chart.proofs.AboveLemmas.{begin_above}
use Rattle.sig_chart.proofs.ArrowLemmas.{ends_at_marks, end_at_handlings}
use Rattle.sig_chart.proofs.BeginLemmas.{begin_at_senders}
use Rattle.sig_chart.proofs.laws.an_arrow_leads_from_sending_to_handling.Goals as goal

pub returns-clause-ends : goal.returns-clause-ends
returns-clause-ends c = λ w g. ends_at_marks g 0 g.shown

pub returns-clause-begins : goal.returns-clause-begins
returns-clause-begins c = λ w g. begin_at_senders g 0 g.shown

pub returns-clause-above : goal.returns-clause-above
returns-clause-above c = λ w g. begin_above g 0 g.shown

pub returns-clause-of : goal.returns-clause-of
returns-clause-of c = λ w g. end_at_handlings g
