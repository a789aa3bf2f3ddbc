use Rattle.sig_model.proofs.Waiting.{waiting_iff}
use Rattle.sig_model.proofs.receives.only_a_receive_waits.Goals as goal

pub returns : goal.returns
returns c = waiting_iff
