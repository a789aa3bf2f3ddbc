use Rattle.std.proofs.Common.{rules, refl}
use Rattle.sig_queue.proofs.Ties.{looks_only}
use Rattle.sig_queue.proofs.Bodies.{OneStep}
use Rattle.sig_queue.proofs.words.seat_steps.look_only.Code as code
use Rattle.sig_queue.proofs.words.seat_steps.look_only.Goals as goal

pub load-requires : goal.load-requires
load-requires c = (search rules, search rules, looks_only _ _ _ _)

one_step : OneStep code.function
one_step = (refl, refl, refl)
