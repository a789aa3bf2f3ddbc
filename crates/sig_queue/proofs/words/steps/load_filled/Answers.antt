use Rattle.std.proofs.Common.{rules, refl}
use Rattle.sig_queue.proofs.Bodies.{OneStep}
use Rattle.sig_queue.proofs.Ties.{loads_filled}
use Rattle.sig_queue.proofs.words.steps.load_filled.Code as code
use Rattle.sig_queue.proofs.words.steps.load_filled.Goals as goal

pub load-requires : goal.load-requires
load-requires c = (search rules, search rules, loads_filled _ _ _ _)

one_step : OneStep code.function
one_step = (refl, refl, refl)
