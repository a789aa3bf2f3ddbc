use Rattle.sig_patterns.proofs.Comparing.{compares_integers, compares_others, undefined_value}
use Rattle.sig_patterns.proofs.laws.a_comparison_is_of_integers.Goals as goal

pub returns-clause-integers : goal.returns-clause-integers
returns-clause-integers c = λ op m n. compares_integers op m n

pub returns-clause-others : goal.returns-clause-others
returns-clause-others c = λ op t u holds. compares_others op t u holds

pub returns-clause-undefined : goal.returns-clause-undefined
returns-clause-undefined c = λ env x none. undefined_value env x.0 none
