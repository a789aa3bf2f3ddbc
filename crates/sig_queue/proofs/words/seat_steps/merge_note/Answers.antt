use Rattle.std.proofs.Common.{◌∙◌, refl, [], ◌∷◌}
use Rattle.sig_queue.proofs.Bodies.{TwoSteps}
use Rattle.sig_queue.proofs.words.seat_steps.merge_note.Code as code
use Rattle.sig_queue.proofs.words.seat_steps.merge_note.Goals as goal

pub returns-clause-same : goal.returns-clause-same
returns-clause-same c = let look = c.look_only.ensures in let both = c.merge.ensures in (look.same.0 ∙ both.same.0, look.same.1 ∙ both.same.1)

pub returns-clause-both : goal.returns-clause-both
returns-clause-both c = c.look_only.ensures.still ∙ c.merge.ensures.both

two_steps : TwoSteps ("sig_queue::words::seat_steps::merge" ∷ "sig_queue::words::seat_steps::look_only" ∷ []) code.function
two_steps = (refl, refl)
