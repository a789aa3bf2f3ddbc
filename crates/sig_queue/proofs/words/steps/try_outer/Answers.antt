use Rattle.std.proofs.Common.{refl, [], ◌∷◌}
use Rattle.sig_queue.proofs.Bodies.{TwoSteps}
use Rattle.sig_queue.proofs.words.steps.try_outer.Code as code

-- it takes that one step
one_step : TwoSteps ("sig_queue::words::steps::step_outer" ∷ []) code.function
one_step = (refl, refl)
