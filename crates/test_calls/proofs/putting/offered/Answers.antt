use Rattle.std.proofs.Common.{ap, ◌∙◌, sym, Option}
use Rattle.sig_layout.specs.declared.via.Via.{Via}
use Rattle.example_relay.specs.Relays.{message}
use Rattle.test_calls.specs.Queues.{put_after}
use Rattle.test_calls.proofs.Offers.{offered_hand, offered_put}
use Rattle.test_calls.proofs.putting.offered.Goals as goal

pub returns-clause-hand : goal.returns-clause-hand
returns-clause-hand c = offered_hand _ _ _ c.offer_message-offer.result c.offer_message-offer.ensures.offered

pub returns-clause-put : goal.returns-clause-put
returns-clause-put c = let x = message c.args.line.from c.args.line.to c.args.number c.args.serial in
    offered_put x _ _ c.offer_message-offer.result c.offer_message-offer.ensures.offered ∙ ap (λ (way : Option Via). put_after c.args.seat.now.knows.put x way) (sym c.way_of.ensures)
