use Rattle.std.proofs.Common.{rules, refl}
use Rattle.sig_queue.proofs.Ties.{leaves}
use Rattle.sig_queue.proofs.Bodies.{OneStep}
use Rattle.sig_queue.proofs.words.steps.leave_same.Code as code
use Rattle.sig_queue.proofs.words.steps.leave_same.Goals as goal

pub store-requires : goal.store-requires
store-requires c = let h = c.requires.held in (search rules, search rules, leaves _ _ _ _ h.0 h.1 c.requires.nothing.0 c.requires.nothing.1 c.requires.nothing.2 h.2)

one_step : OneStep code.function
one_step = (refl, refl, refl)
