use Rattle.sig_runs.proofs.AtWork.{delivery_keeps_lawful, delivery_is_no_step}
use Rattle.sig_runs.proofs.delivery_is_no_step.Goals as goal

pub returns-clause-keeps : goal.returns-clause-keeps
returns-clause-keeps g c = λ rules opening old new s t lawful delivers. delivery_keeps_lawful rules opening old new lawful s t delivers

pub returns-clause-is_no_step : goal.returns-clause-is_no_step
returns-clause-is_no_step g c = λ rules opening old new s t lawful delivers. delivery_is_no_step rules opening old new lawful s t delivers
