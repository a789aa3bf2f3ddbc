use Rattle.std.proofs.Common.{List, subst}
use Rattle.sig_model.specs.declared.origin.Origin.{Origin}
use Rattle.sig_view.specs.Ranges.{IsAnswered}
use Rattle.sig_view.proofs.TextLemmas.{answer_read}
use Rattle.sig_view.proofs.concurrency.concurrent_text.Goals as goal

pub returns-clause-text : goal.returns-clause-text
returns-clause-text g c =
    answer_read _ c.in_ok-given.given.script c.in_ok-given.given.told c.in_ok-origins.origins c.in_ok-given.ensures.settled c.in_ok-origins.ensures.those c.args.event c.answer.result
    (subst (λ (os : List Origin). IsAnswered c.in_ok-given.given.told os c.args.event c.answer.result) c.in_ok-order.ensures.1 c.answer.ensures)
