use Rattle.sig_runs.proofs.Order.{order_is_run, order_events}
use Rattle.sig_runs.proofs.merge_is_a_run.Goals as goal

pub returns-clause-run : goal.returns-clause-run
returns-clause-run g c = λ rules opening crew order stamped lawful o. order_is_run rules stamped opening crew order lawful o

pub returns-clause-events : goal.returns-clause-events
returns-clause-events g c = λ rules opening crew order stamped lawful o p. order_events rules stamped opening crew order lawful o p
