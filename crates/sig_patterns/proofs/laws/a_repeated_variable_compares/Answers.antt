use Rattle.sig_patterns.proofs.Examples.{repeated}
use Rattle.sig_patterns.proofs.laws.a_repeated_variable_compares.Goals as goal

pub returns : goal.returns
returns c = λ env x t u. repeated env x t u
