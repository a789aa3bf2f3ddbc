use Rattle.std.proofs.Common.{◌≡◌, ◌+◌, Bool, Option, sym, subst, length, if◌then◌else◌, IfSome}
use Rattle.sig_kinds.specs.declared.signal.Signal.{Signal}
use Rattle.sig_layout.specs.declared.knows.Knows.{Knows}
use Rattle.sig_layout.specs.Sent.{putter, of}
use Rattle.example_relay.specs.Relays.{message}
use Rattle.example_relay.proofs.Sendings.{offered_senders, offered_count}
use Rattle.example_relay.proofs.offering.put_message.Goals as goal

pub returns-clause-senders : goal.returns-clause-senders
returns-clause-senders c = let x : Signal = message c.args.line.from c.args.line.to c.args.number c.args.serial in
    offered_senders x c.args.seat.now.knows c.offer_message-offer.new.seat.knows c.offer_message-offer.result c.offer_message-offer.ensures.offered

pub returns-clause-count : goal.returns-clause-count
returns-clause-count c = let x : Signal = message c.args.line.from c.args.line.to c.args.number c.args.serial in let v : Knows = c.args.seat.now.knows in let u : Knows = c.offer_message-offer.new.seat.knows in
    subst (λ (r : Option Bool). IfSome r (λ put. length (of putter x.from.0 u.put) ≡ length (of putter x.from.0 v.put) + (if put then 1 else 0))) (sym c.was_put-put.ensures)
    (offered_count x v u c.offer_message-offer.result c.offer_message-offer.ensures.offered)
