use Rattle.std.proofs.Common.{rules, ◌∙◌, refl}
use Rattle.sig_queue.proofs.Ties.{fetches}
use Rattle.sig_queue.proofs.Bodies.{OneStep}
use Rattle.sig_queue.proofs.words.steps.leave_fetch.Code as code
use Rattle.sig_queue.proofs.words.steps.leave_fetch.Goals as goal

pub store-requires : goal.store-requires
store-requires g c = let h = c.requires.held in let f = c.requires.fetching in (search rules, search rules, fetches _ _ _ _ h.0 _ _ c.requires.picked.1 h.1 f.0 f.1 f.2 f.3 c.requires.role.0 c.requires.role.1 (c.requires.picked.0 ∙ h.2) h.3)

one_step : OneStep code.function
one_step = (refl, refl, refl)
