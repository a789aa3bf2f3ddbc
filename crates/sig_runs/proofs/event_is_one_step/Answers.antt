use Rattle.sig_runs.proofs.AtWork.{act_keeps_lawful, act_steps}
use Rattle.sig_runs.proofs.event_is_one_step.Goals as goal

pub returns-clause-keeps : goal.returns-clause-keeps
returns-clause-keeps g c = λ rules opening old new p a stamped lawful does. act_keeps_lawful rules opening old new lawful stamped p a does

pub returns-clause-is_step : goal.returns-clause-is_step
returns-clause-is_step g c = λ rules opening old new p a stamped lawful does. act_steps rules opening old new lawful stamped p a does
