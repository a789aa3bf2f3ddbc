use Rattle.std.proofs.Common.{rules, refl, []}
use Rattle.sig_queue.proofs.Bodies.{Keeps}
use Rattle.sig_queue.proofs.rest.Rest.next.Code as code
use Rattle.sig_queue.proofs.rest.Rest.next.Goals as goal

pub returns : goal.returns
returns c = search rules

code_keeps : Keeps [] code.function
code_keeps = (refl, refl)
