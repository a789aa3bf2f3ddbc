use Rattle.sig_patterns.proofs.HitLemmas.{hit_message, hit_clause}
use Rattle.sig_patterns.proofs.OldestLemmas.{oldest_hit, first_hit, no_hit}
use Rattle.sig_patterns.proofs.laws.a_hit_tells_its_match.Goals as goal

pub returns-clause-message : goal.returns-clause-message
returns-clause-message c = λ clauses env messages h is. hit_message env clauses messages h is

pub returns-clause-clause : goal.returns-clause-clause
returns-clause-clause c = λ clauses env messages h is. hit_clause env clauses messages h is

pub returns-clause-oldest : goal.returns-clause-oldest
returns-clause-oldest c = λ clauses env messages h is. oldest_hit env clauses messages h is

pub returns-clause-first : goal.returns-clause-first
returns-clause-first c = λ clauses env messages h is. first_hit env clauses messages h is

pub returns-clause-none : goal.returns-clause-none
returns-clause-none c = λ clauses env messages is. no_hit env clauses messages is
