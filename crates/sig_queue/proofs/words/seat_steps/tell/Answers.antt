use Rattle.std.proofs.Common.{rules, refl}
use Rattle.sig_queue.proofs.Ties.{notes}
use Rattle.sig_queue.proofs.Bodies.{OneStep}
use Rattle.sig_queue.proofs.words.seat_steps.tell.Code as code
use Rattle.sig_queue.proofs.words.seat_steps.tell.Goals as goal

pub split_seat-requires : goal.split_seat-requires
split_seat-requires c = (search rules, search rules, notes _ _ _)

one_step : OneStep code.function
one_step = (refl, refl, refl)
