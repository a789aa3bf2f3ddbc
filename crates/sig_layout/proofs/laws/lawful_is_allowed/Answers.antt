use Rattle.sig_layout.proofs.Wording.{lawful_of, allowed_of}
use Rattle.sig_layout.proofs.laws.lawful_is_allowed.Goals as goal

pub returns : goal.returns
returns c p j = (allowed_of p j, lawful_of p j)
