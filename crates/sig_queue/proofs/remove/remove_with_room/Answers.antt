use Rattle.std.proofs.Common.{ap, ◌∙◌, refl, []}
use Rattle.sig_layout.specs.declared.layout.TheConstants.{BUFFERS}
use Rattle.sig_queue.specs.Tied.{Held}
use Rattle.sig_queue.proofs.Waiting.{each_same}
use Rattle.sig_queue.proofs.Bodies.{Keeps}
use Rattle.sig_queue.proofs.remove.remove_with_room.Code as code
use Rattle.sig_queue.proofs.remove.remove_with_room.Goals as goal

pub returns-clause-tries : goal.returns-clause-tries
returns-clause-tries g c = let off = c.mode_off.ensures.off in
    each_same BUFFERS c.args.place.now.me.0 c.mode_off.new.place.me.0 c.pass_all.new.place.me.0 c.leave_remove.new.place.me.0 c.pass_all.ensures.tries
    (ap (λ (m : Held). m.0.senders) off) (ap (λ (m : Held). m.0.role) off) (ap (λ (m : Held). m.0.tries) off)
    (ap (λ (m : Held). m.0.tries) c.leave_remove.ensures.left ∙ ap (λ (m : Held). m.0.tries) c.put_value.ensures.back)

code_keeps : Keeps [] code.function
code_keeps = (refl, refl)
