use Rattle.std.proofs.Common.{ap, subst, refl, []}
use Rattle.sig_layout.specs.declared.knows.Knows.{Knows}
use Rattle.sig_queue.specs.Tied.{Held}
use Rattle.sig_queue.specs.Seats.{Seated}
use Rattle.sig_queue.specs.Removing.{WaitedForAll}
use Rattle.sig_queue.proofs.Waiting.{all_waited}
use Rattle.sig_queue.proofs.Bodies.{Keeps}
use Rattle.sig_queue.proofs.sig_queue.SigQueue.remove.Code as code
use Rattle.sig_queue.proofs.sig_queue.SigQueue.remove.Goals as goal

pub returns-clause-all : goal.returns-clause-all
returns-clause-all g c = let first = c.wait_outer-seat-inside.ensures in let its = c.in_ok-remove_held.ensures in
    subst (λ (z : Knows). WaitedForAll z c.remove_held.new.place.me.0) (ap (λ (x : Seated). x.knows) c.seat.view_is)
    (all_waited c.seat.inside.place.me.0 c.wait_outer-seat-inside.new.place.me.0 c.remove_held.new.place.me.0 first.tries
    (ap (λ (m : Held). m.0.senders) first.took.1) (ap (λ (m : Held). m.0.role) first.took.1) its.tries (ap (λ (z : Knows). z.refused) its.ok))

code_keeps : Keeps [] code.function
code_keeps = (refl, refl)
