use Rattle.sig_terms.proofs.SameTerms.{test_is_equality}
use Rattle.sig_terms.proofs.term.same_is_equality.Goals as goal

pub returns : goal.returns
returns c = test_is_equality
