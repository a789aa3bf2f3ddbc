use Rattle.sig_layout.proofs.Ruling.{ruled}
use Rattle.sig_layout.proofs.laws.rule.Goals as goal

pub returns : goal.returns
returns c z proper q r = ruled z proper q r
