use Rattle.sig_layout.proofs.Wording.{one_due}
use Rattle.sig_layout.proofs.laws.due_is_one.Goals as goal

pub returns : goal.returns
returns c p j d e h k = one_due p j d e h k
