use Rattle.sig_patterns.proofs.Examples.{pinned}
use Rattle.sig_patterns.proofs.laws.a_pin_compares_with_the_value_before.Goals as goal

pub returns : goal.returns
returns c = λ env x t u. pinned env x t u
