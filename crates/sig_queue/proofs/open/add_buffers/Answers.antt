use Rattle.std.proofs.Common.{◌++◌, ◌∷◌, [], List, ap, ◌∙◌, append_assoc, arith, rules, refl}
use Rattle.sig_queue.specs.declared.slot.Slot.{Slot}
use Rattle.sig_queue.specs.declared.slot.Slot.TheVariants as slot
use Rattle.sig_queue.specs.Tables.{all_buffers, buffers}
use Rattle.sig_queue.proofs.Ending.{replicate_more}
use Rattle.sig_layout.specs.declared.layout.TheConstants.{BUFFERS}
use Rattle.sig_queue.proofs.Bodies.{Keeps, up_to}
use Rattle.sig_queue.proofs.open.add_buffers.Code as code
use Rattle.sig_queue.proofs.open.add_buffers.Goals as goal

pub loop-preserved : goal.loop-preserved
loop-preserved c = let inv = c.loop.invariant in let p = c.push_reserved.ensures in record {
  items = p.items ∙ ((λ i. inv.items i ++ slot.List (c.new.ensures i) ∷ []) ∙ (append_assoc c.args.slots.now.items (buffers c.loop.counter) (slot.List [] ∷ []) ∙ ap (λ (l : List Slot). c.args.slots.now.items ++ l) (replicate_more c.loop.counter (slot.List []))));
  room = omega arith;
}

pub returns : goal.returns
unfolding all_buffers
returns c = search rules

code_keeps : Keeps (up_to BUFFERS ∷ []) code.function
code_keeps = (refl, refl)
