use Rattle.sig_model.proofs.SkipLemmas.{whole_same}
use Rattle.sig_model.proofs.receives.a_mark_skips_no_match.Goals as goal

pub returns : goal.returns
returns c = whole_same
