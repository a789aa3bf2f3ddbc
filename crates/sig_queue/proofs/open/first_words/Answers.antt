use Rattle.std.proofs.Common.{rules, refl, []}
use Rattle.sig_queue.specs.Tables.{zeros}
use Rattle.sig_queue.proofs.Bodies.{Keeps}
use Rattle.sig_queue.proofs.open.first_words.Code as code
use Rattle.sig_queue.proofs.open.first_words.Goals as goal

pub returns : goal.returns
unfolding zeros
returns c = search rules

code_keeps : Keeps [] code.function
code_keeps = (refl, refl)
