use Rattle.sig_terms.proofs.WholeReads.{one_term}
use Rattle.sig_terms.proofs.reading.texts_tell_terms_apart.Goals as goal

pub returns : goal.returns
returns c = one_term
