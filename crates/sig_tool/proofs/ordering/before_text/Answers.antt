use Rattle.sig_tool.proofs.OrderLemmas.{text_so}
use Rattle.sig_tool.proofs.ordering.before_text.Goals as goal

pub returns-clause-text : goal.returns-clause-text
returns-clause-text g c = text_so c.in_ok-given.given.script c.in_ok-given.given.told c.in_ok-order.order c.in_ok-order.ensures c.args.first c.args.second _ c.in_ok-given.ensures.checked c.answer.result c.answer.ensures
