use Rattle.std.proofs.Common.{rules, refl}
use Rattle.sig_queue.proofs.Ties.{joins}
use Rattle.sig_queue.proofs.Bodies.{OneStep}
use Rattle.sig_queue.proofs.words.seat_steps.merge.Code as code
use Rattle.sig_queue.proofs.words.seat_steps.merge.Goals as goal

pub join_seat-requires : goal.join_seat-requires
join_seat-requires c = (search rules, search rules, search rules, search rules, joins _ _ _ _ _ c.requires.idle.0 c.requires.idle.2)

one_step : OneStep code.function
one_step = (refl, refl, refl)
