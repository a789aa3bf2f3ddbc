use Rattle.sig_runs.proofs.Pairs.{round_pair}
use Rattle.sig_runs.proofs.round_keeps_the_pair.Goals as goal

pub returns : goal.returns
returns g c = λ handled queued sent handled' queued' fetched put left before grew closed. round_pair handled queued sent handled' queued' fetched put left before grew closed
