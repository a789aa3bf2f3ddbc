use Rattle.sig_view.proofs.ListReads.{one_by_text}
use Rattle.sig_view.proofs.laws.a_list_is_told_by_its_text.Goals as goal

pub returns : goal.returns
returns c = one_by_text
