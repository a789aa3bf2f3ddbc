use Rattle.std.proofs.Common.{slice_get}
use Rattle.sig_model.proofs.StampLemmas.{stamps_kept, events_low, handled_low}
use Rattle.sig_model.proofs.stamps.stamps_are_kept.Goals as goal

pub returns-clause-rules : goal.returns-clause-rules
returns-clause-rules c = λ script. stamps_kept script.turns (slice_get script.procs)

pub returns-clause-events : goal.returns-clause-events
returns-clause-events c = λ r keeping. events_low r keeping

pub returns-clause-handled : goal.returns-clause-handled
returns-clause-handled c = λ r keeping. handled_low r keeping
