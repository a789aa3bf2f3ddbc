use Rattle.sig_patterns.proofs.Examples.{head_and_list}
use Rattle.sig_patterns.proofs.laws.a_list_is_a_head_and_a_list.Goals as goal

pub returns : goal.returns
returns c = λ env p ps t. head_and_list env p ps t
