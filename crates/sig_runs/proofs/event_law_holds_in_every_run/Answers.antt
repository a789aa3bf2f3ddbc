use Rattle.sig_runs.proofs.Everywhere.{run_keeps_facts}
use Rattle.sig_runs.proofs.event_law_holds_in_every_run.Goals as goal

pub returns : goal.returns
returns g c = λ rules opening end events law holds run. run_keeps_facts rules g.F.Stated.facts law events opening end holds run
