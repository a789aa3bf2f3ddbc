use Rattle.std.proofs.Common.{refl, [], ◌∷◌}
use Rattle.sig_queue.proofs.Bodies.{Keeps, each}
use Rattle.sig_queue.proofs.batches.Batches.next.Code as code

code_keeps : Keeps (each "sig_layout::batch::Batch::pop_front" ∷ []) code.function
code_keeps = (refl, refl)
