use Rattle.std.proofs.Common.{refl, [], ◌∷◌}
use Rattle.sig_queue.proofs.Bodies.{TwoSteps}
use Rattle.sig_queue.proofs.words.steps.push_outer.Code as code

two_steps : TwoSteps ("atomic_table::shared::Seat::slot_mut" ∷ "sig_queue::outer_box::OuterBox::put" ∷ []) code.function
two_steps = (refl, refl)
