use Rattle.std.proofs.Common.{rules, refl}
use Rattle.sig_queue.proofs.Ties.{removes}
use Rattle.sig_queue.proofs.Bodies.{OneStep}
use Rattle.sig_queue.proofs.words.steps.leave_remove.Code as code
use Rattle.sig_queue.proofs.words.steps.leave_remove.Goals as goal

pub store-requires : goal.store-requires
store-requires c = let h = c.requires.held in let f = c.requires.removing in (search rules, search rules, removes _ _ _ _ h.0 h.1 f.0 f.1 f.2 f.4 f.5 f.3 h.2)

one_step : OneStep code.function
one_step = (refl, refl, refl)
