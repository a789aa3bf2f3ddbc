use Rattle.sig_runs.proofs.AtWork.{opened_is_lawful, opened_machine}
use Rattle.sig_runs.proofs.opened_crew_is_lawful.Goals as goal

pub returns-clause-lawful : goal.returns-clause-lawful
returns-clause-lawful g c = λ rules opening. opened_is_lawful rules opening

pub returns-clause-machine : goal.returns-clause-machine
returns-clause-machine g c = λ rules opening. opened_machine rules opening
