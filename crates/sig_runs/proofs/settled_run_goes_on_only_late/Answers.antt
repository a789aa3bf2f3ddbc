use Rattle.sig_runs.proofs.Settled.{settled_choice, settled_run}
use Rattle.sig_runs.proofs.settled_run_goes_on_only_late.Goals as goal

pub returns-clause-step : goal.returns-clause-step
returns-clause-step g c = λ rules m p did next settled step. settled_choice rules m settled p did next step

pub returns-clause-run : goal.returns-clause-run
returns-clause-run g c = λ rules opening end far events later a run settled longer. settled_run rules opening end far events a later run settled longer
