use Rattle.sig_runs.proofs.Stamps.{events_by_last, handled_before_last}
use Rattle.sig_runs.proofs.no_stamp_is_above_the_last.Goals as goal

pub returns-clause-events : goal.returns-clause-events
returns-clause-events g c = λ rules p opening end events handled stamped ran. events_by_last rules stamped p opening end events handled ran

pub returns-clause-handled : goal.returns-clause-handled
returns-clause-handled g c = λ rules p opening end events handled stamped ran. handled_before_last rules stamped p opening end events handled ran
