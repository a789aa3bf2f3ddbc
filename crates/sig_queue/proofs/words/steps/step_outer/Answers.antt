use Rattle.std.proofs.Common.{rules, refl}
use Rattle.sig_queue.proofs.Ties.{takes_outer}
use Rattle.sig_queue.proofs.Bodies.{OneStep}
use Rattle.sig_queue.proofs.words.steps.step_outer.Code as code
use Rattle.sig_queue.proofs.words.steps.step_outer.Goals as goal

pub compare_exchange-requires : goal.compare_exchange-requires
compare_exchange-requires g c = (search rules, search rules, takes_outer _ _ _ _ _ _ c.requires.picked c.requires.idle.0 c.requires.idle.1 c.requires.idle.2)

one_step : OneStep code.function
one_step = (refl, refl, refl)
