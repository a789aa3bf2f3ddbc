use Rattle.sig_chart.proofs.QueuedLemmas.{drawn}
use Rattle.sig_chart.proofs.laws.queued_signals_are_drawn.Goals as goal

pub returns : goal.returns
returns c = λ w g s shown stamp. drawn w g s shown stamp
