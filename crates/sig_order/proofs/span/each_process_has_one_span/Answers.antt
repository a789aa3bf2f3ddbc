use Rattle.sig_order.proofs.OneSpan.{one_span}
use Rattle.sig_order.proofs.span.each_process_has_one_span.Goals as goal

pub returns : goal.returns
returns c = one_span
