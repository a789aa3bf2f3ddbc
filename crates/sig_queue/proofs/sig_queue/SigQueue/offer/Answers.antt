use Rattle.std.proofs.Common.{ap, ◌∙◌, refl, []}
use Rattle.sig_layout.specs.Sets.{has}
use Rattle.sig_queue.specs.Seats.{Seated}
use Rattle.sig_queue.proofs.Offering.{somebody, seat_again}
use Rattle.sig_queue.proofs.Bodies.{Keeps}
use Rattle.sig_queue.proofs.sig_queue.SigQueue.offer.Code as code
use Rattle.sig_queue.proofs.sig_queue.SigQueue.offer.Goals as goal

pub offer_at-offer-requires-clause-somebody : goal.offer_at-offer-requires-clause-somebody
offer_at-offer-requires-clause-somebody c = let from = ap (λ (x : Seated). has x.knows.senders c.args.signal.from.0) c.seat.view_is ∙ c.requires.from in
    somebody c.seat.inside.place.me.0 c.args.signal.from.0 c.seat.inside.kept.number from c.seat.invariant.keeps.number_is

pub invariant_of-seat : goal.invariant_of-seat
invariant_of-seat c = let o = c.offer_at-offer.ensures in
    seat_again c.args.signal c.seat.inside.place.me.0 c.offer_at-offer.new.place.me.0 c.offer_at-offer.new.place.me.1 c.offer_at-offer.result c.seat.inside.kept c.offer_at-offer.new.refused o.offered c.seat.invariant.idle c.seat.invariant.keeps o.bare o.refused

code_keeps : Keeps [] code.function
code_keeps = (refl, refl)
