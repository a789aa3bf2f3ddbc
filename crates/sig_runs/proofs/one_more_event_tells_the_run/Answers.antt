use Rattle.sig_runs.proofs.Replay.{one_more}
use Rattle.sig_runs.proofs.one_more_event_tells_the_run.Goals as goal

pub returns : goal.returns
returns g c = λ rules p opening now events handled a stamped ran can. one_more rules stamped p opening now events handled a ran can
