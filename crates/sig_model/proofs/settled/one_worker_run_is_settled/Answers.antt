use Rattle.sig_model.proofs.SettledLemmas.{one_worker_made, one_run}
use Rattle.sig_model.proofs.settled.one_worker_run_is_settled.Goals as goal

pub returns-clause-settled : goal.returns-clause-settled
returns-clause-settled c = λ script last h. (one_worker_made script last h).0

pub returns-clause-in_order : goal.returns-clause-in_order
returns-clause-in_order c = one_worker_made

pub returns-clause-one_only : goal.returns-clause-one_only
returns-clause-one_only c = one_run
