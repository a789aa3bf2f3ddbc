use Rattle.sig_patterns.proofs.PinLemmas.{pinned_is_held}
use Rattle.sig_patterns.proofs.laws.a_pinned_reference_is_held.Goals as goal

pub returns : goal.returns
returns c = λ p env t e x r is pinned value. pinned_is_held r p env t e x is pinned value
