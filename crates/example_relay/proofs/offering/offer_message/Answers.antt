use Rattle.std.proofs.Common.{sym, subst}
use Rattle.sig_layout.specs.Openings.{IsNext}
use Rattle.example_relay.proofs.Sendings.{next_of}
use Rattle.example_relay.proofs.offering.offer_message.Goals as goal

pub offer-requires-clause-next : goal.offer-requires-clause-next
offer-requires-clause-next c = subst (IsNext c.args.queue.now.setup c.args.seat.now.knows.put) (sym c.message.ensures) (next_of _ c.args.line c.args.seat.now.knows.put c.requires.sender c.args.number c.args.serial c.requires.next)
