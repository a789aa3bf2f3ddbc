use Rattle.std.proofs.Common.{◌++◌, inl, inr}
use Rattle.sig_model.proofs.NumberLemmas.{opened_numbered, keeping_numbered, step_numbered, lists_numbered, numbers_on_the_way}
use Rattle.sig_model.proofs.numbers.signals_are_numbered.Goals as goal

pub returns-clause-opened : goal.returns-clause-opened
returns-clause-opened c = opened_numbered

pub returns-clause-kept : goal.returns-clause-kept
returns-clause-kept c = keeping_numbered

pub returns-clause-executed : goal.returns-clause-executed
returns-clause-executed c = λ r t k e. step_numbered r t k (inr e)

pub returns-clause-handled : goal.returns-clause-handled
returns-clause-handled c = λ r t k e. step_numbered r t k (inl e)

pub returns-clause-arrived : goal.returns-clause-arrived
returns-clause-arrived c = λ r xs n. lists_numbered r (r.taken_in ++ xs) r.outbox n

pub returns-clause-fetched : goal.returns-clause-fetched
returns-clause-fetched c = λ r left n. lists_numbered r r.taken_in left n

pub returns-clause-on_the_way : goal.returns-clause-on_the_way
returns-clause-on_the_way c = numbers_on_the_way
