use Rattle.std.proofs.Common.{refl, []}
use Rattle.sig_queue.proofs.Bodies.{Keeps}
use Rattle.sig_queue.proofs.sent.pause.Code as code

code_keeps : Keeps [] code.function
code_keeps = (refl, refl)
