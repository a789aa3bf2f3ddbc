use Rattle.std.proofs.Common.{rules, refl}
use Rattle.sig_queue.proofs.Ties.{splits}
use Rattle.sig_queue.proofs.Bodies.{OneStep}
use Rattle.sig_queue.proofs.words.seat_steps.cut.Code as code
use Rattle.sig_queue.proofs.words.seat_steps.cut.Goals as goal

pub split_seat-requires : goal.split_seat-requires
split_seat-requires g c = (search rules, search rules, splits _ _ _ _ _ c.requires.idle.0 c.requires.share.0 c.requires.share.1)

one_step : OneStep code.function
one_step = (refl, refl, refl)
