use Rattle.std.proofs.Common.{◌≡◌, ◌+◌, sym, subst, inr, refl, []}
use Rattle.sig_layout.specs.declared.knows.Knows.{Knows}
use Rattle.sig_layout.specs.Views.{number, IsSomebody}
use Rattle.sig_queue.proofs.Offering.{offered_to_outer, no_buffer}
use Rattle.sig_queue.proofs.Bodies.{Keeps}
use Rattle.sig_queue.proofs.offer.offer_at.Code as code
use Rattle.sig_queue.proofs.offer.offer_at.Goals as goal

pub returns-in-Off-clause-offered : goal.returns-in-Off-clause-offered
returns-in-Off-clause-offered c = let o = c.in-Off.ensures.offered in offered_to_outer c.args.signal c.in-Off.signal c.args.place.now.me.0 c.offer_to_buffer-offered.new.place.me.0 c.offer_outer.new.place.me.0 o.1.0 c.requires.idle.0 o.0 o.1.1 c.offer_outer.result c.offer_outer.ensures.offered

pub returns-in-Off-clause-never : goal.returns-in-Off-clause-never
returns-in-Off-clause-never c _ b = no_buffer c.in-Off.signal c.offer_to_buffer-offered.new.place.me.0 c.offer_outer.new.place.me.0 c.offer_outer.result b c.offer_outer.ensures.offered

pub offer_outer-requires-clause-somebody : goal.offer_outer-requires-clause-somebody
offer_outer-requires-clause-somebody c = subst (λ (z : Knows). IsSomebody z × (c.args.my_word ≡ number z + 1)) (sym c.in-Off.ensures.offered.1.1) c.requires.somebody

pub returns-in-Busy-clause-offered : goal.returns-in-Busy-clause-offered
returns-in-Busy-clause-offered c = let o = c.in-Busy.ensures.offered in (o.0, o.2, inr o.1)

pub returns-in-Memory-clause-offered : goal.returns-in-Memory-clause-offered
returns-in-Memory-clause-offered c = let o = c.in-Memory.ensures.offered in (o.0, inr o.1)

code_keeps : Keeps [] code.function
code_keeps = (refl, refl)
