use Rattle.std.proofs.Common.{rules, refl}
use Rattle.sig_queue.proofs.Ties.{takes_bits}
use Rattle.sig_queue.proofs.Bodies.{OneStep}
use Rattle.sig_queue.proofs.words.steps.take_bits.Code as code
use Rattle.sig_queue.proofs.words.steps.take_bits.Goals as goal

pub swap-requires : goal.swap-requires
swap-requires c = (search rules, search rules, takes_bits _ _ _ _ c.requires.begins.0 c.requires.begins.1)

one_step : OneStep code.function
one_step = (refl, refl, refl)
