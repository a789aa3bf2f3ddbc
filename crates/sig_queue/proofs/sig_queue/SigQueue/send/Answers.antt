use Rattle.std.proofs.Common.{◌∙◌, subst, refl, [], ◌∷◌}
use Rattle.sig_kinds.specs.declared.signal.Signal.{Signal}
use Rattle.sig_queue.specs.Calls.{none, more, Offered, RefusedOne}
use Rattle.sig_queue.specs.declared.offer.Offer.TheVariants as offer
use Rattle.sig_queue.proofs.Sendings.{same_from, same_next}
use Rattle.sig_queue.proofs.Bodies.{Keeps, each}
use Rattle.sig_queue.proofs.sig_queue.SigQueue.send.Code as code
use Rattle.sig_queue.proofs.sig_queue.SigQueue.send.Goals as goal

pub loop-init : goal.loop-init
loop-init g c = record { own = refl; signal = refl; turned_away = none }

pub offer-requires-clause-from : goal.offer-requires-clause-from
offer-requires-clause-from g c = let inv = c.loop.invariant in same_from c.args.signal c.loop.signal c.args.seat.now.knows c.loop.seat.knows inv.turned_away inv.signal c.requires.from

pub offer-requires-clause-next : goal.offer-requires-clause-next
offer-requires-clause-next g c = let inv = c.loop.invariant in same_next c.args.self.now.setup c.args.signal c.loop.signal c.args.seat.now.knows c.loop.seat.knows inv.turned_away inv.signal c.requires.next

pub returns-in-Put-clause-sent : goal.returns-in-Put-clause-sent
returns-in-Put-clause-sent g c = let inv = c.loop.invariant in (c.loop.seat.knows, inv.turned_away, subst (λ (s : Signal). Offered s c.loop.seat.knows (offer.Put c.in-Put.via) c.offer.new.seat.knows) inv.signal c.in-Put.ensures.offered)

pub returns-in-Memory-clause-sent : goal.returns-in-Memory-clause-sent
returns-in-Memory-clause-sent g c = let inv = c.loop.invariant in (c.loop.seat.knows, inv.turned_away, subst (λ (s : Signal). Offered s c.loop.seat.knows (offer.Memory c.in-Memory.signal) c.offer.new.seat.knows) inv.signal c.in-Memory.ensures.offered)

pub loop-preserved : goal.loop-preserved
loop-preserved g c = let inv = c.loop.invariant in let o = c.in-Busy.ensures.offered in record {
  own = c.offer.ensures.own ∙ inv.own;
  signal = o.0 ∙ inv.signal;
  turned_away = more c.loop.seat.knows c.offer.new.seat.knows c.in-Busy.found inv.turned_away
      (refl, o.1, subst (λ (s : Signal). RefusedOne s c.loop.seat.knows c.in-Busy.found c.offer.new.seat.knows) inv.signal o.2);
}

code_keeps : Keeps (each "core::sync::endless::ForeverIterator::next" ∷ []) code.function
code_keeps = (refl, refl)
