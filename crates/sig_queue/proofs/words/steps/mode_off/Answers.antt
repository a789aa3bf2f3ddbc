use Rattle.std.proofs.Common.{rules, refl}
use Rattle.sig_queue.proofs.Ties.{stores_off}
use Rattle.sig_queue.proofs.Bodies.{OneStep}
use Rattle.sig_queue.proofs.words.steps.mode_off.Code as code
use Rattle.sig_queue.proofs.words.steps.mode_off.Goals as goal

pub store-requires : goal.store-requires
store-requires c = (search rules, search rules, stores_off _ _ _ _ c.requires.begins.0 c.requires.begins.1 c.requires.due.0 c.requires.due.1 c.requires.due.2)

one_step : OneStep code.function
one_step = (refl, refl, refl)
