use Rattle.std.proofs.Common.{rules, refl, []}
use Rattle.sig_queue.proofs.Bodies.{Keeps}
use Rattle.sig_queue.proofs.sig_queue.SigQueue.note.Code as code
use Rattle.sig_queue.proofs.sig_queue.SigQueue.note.Goals as goal

pub returns-clause-note : goal.returns-clause-note
returns-clause-note c = search rules

code_keeps : Keeps [] code.function
code_keeps = (refl, refl)
