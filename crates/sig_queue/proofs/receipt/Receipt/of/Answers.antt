use Rattle.std.proofs.Common.{refl, []}
use Rattle.sig_queue.proofs.Bodies.{Keeps}
use Rattle.sig_queue.proofs.receipt.Receipt.of.Code as code
use Rattle.sig_queue.proofs.receipt.Receipt.of.Goals as goal

pub returns : goal.returns
returns c = c.state_of-mark.ensures

code_keeps : Keeps [] code.function
code_keeps = (refl, refl)
