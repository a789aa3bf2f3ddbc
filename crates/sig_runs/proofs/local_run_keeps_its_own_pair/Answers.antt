use Rattle.sig_runs.proofs.Pairs.{own_law}
use Rattle.sig_runs.proofs.local_run_keeps_its_own_pair.Goals as goal

pub returns : goal.returns
returns g c = λ rules p acts opening end run. own_law rules p acts opening end run
