use Rattle.sig_check.proofs.OneReplay.{one_replay}
use Rattle.sig_check.proofs.replaying.a_record_has_one_replay.Goals as goal

pub returns : goal.returns
returns c = one_replay
