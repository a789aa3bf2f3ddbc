use Rattle.sig_patterns.proofs.Taking.{takes_match, takes_guard, takes_where, takes_plain}
use Rattle.sig_patterns.proofs.laws.a_clause_takes_what_it_matches.Goals as goal

pub returns-clause-matched : goal.returns-clause-matched
returns-clause-matched c = λ clause env t after is. takes_match clause env t after is

pub returns-clause-guarded : goal.returns-clause-guarded
returns-clause-guarded c = λ clause env t after is. takes_guard clause env t after is

pub returns-clause-taken : goal.returns-clause-taken
returns-clause-taken c = λ clause env t after is holds. takes_where clause env t after is holds

pub returns-clause-plain : goal.returns-clause-plain
returns-clause-plain c = λ clause env t without. takes_plain clause env t without
