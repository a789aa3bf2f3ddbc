use Rattle.std.proofs.Common.{ap}
use Rattle.sig_order.specs.Senders.{sender_told}
use Rattle.sig_order.proofs.senders.sender_known.Goals as goal

pub returns-in-Some : goal.returns-in-Some
returns-in-Some c = ap (λ o. sender_told c.args.key.from o) c.in-Some.ensures.value

pub returns-in-None : goal.returns-in-None
returns-in-None c = ap (λ o. sender_told c.args.key.from o) c.in-None.ensures.value
