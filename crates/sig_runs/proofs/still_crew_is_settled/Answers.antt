use Rattle.sig_runs.proofs.Still.{still_is_settled}
use Rattle.sig_runs.proofs.still_crew_is_settled.Goals as goal

pub returns : goal.returns
returns g c = λ rules opening crew stamped cuts lawful still. still_is_settled rules stamped cuts opening crew lawful still
