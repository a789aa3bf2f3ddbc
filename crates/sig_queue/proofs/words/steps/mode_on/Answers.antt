use Rattle.std.proofs.Common.{rules, refl}
use Rattle.sig_queue.proofs.Ties.{stores_on}
use Rattle.sig_queue.proofs.Bodies.{OneStep}
use Rattle.sig_queue.proofs.words.steps.mode_on.Code as code
use Rattle.sig_queue.proofs.words.steps.mode_on.Goals as goal

pub store-requires : goal.store-requires
store-requires c = (search rules, search rules, stores_on _ _ _ _ c.requires.begins.0 c.requires.begins.1 c.requires.begins.2)

one_step : OneStep code.function
one_step = (refl, refl, refl)
