use Rattle.std.proofs.Common.{refl}
use Rattle.sig_queue.proofs.Bodies.{OneStep}
use Rattle.sig_queue.proofs.words.buffer_steps.push_signal.Code as code

one_step : OneStep code.function
one_step = (refl, refl, refl)
