use Rattle.std.proofs.Common.{rules, refl}
use Rattle.sig_queue.proofs.Ties.{puts}
use Rattle.sig_queue.proofs.Bodies.{OneStep}
use Rattle.sig_queue.proofs.words.steps.leave_put.Code as code
use Rattle.sig_queue.proofs.words.steps.leave_put.Goals as goal

pub store-requires : goal.store-requires
store-requires c = let h = c.requires.held in (search rules, search rules, puts _ _ _ _ h.0 h.1 h.2 c.requires.nothing.0 c.requires.nothing.1 h.3 c.requires.off h.4 h.5 h.6)

one_step : OneStep code.function
one_step = (refl, refl, refl)
