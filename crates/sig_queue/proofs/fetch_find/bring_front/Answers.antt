use Rattle.std.proofs.Common.{◌<◌, ℕ, List, length, ap, ◌∙◌, arith, refl, [], ◌∷◌}
use Rattle.atomic_table.specs.Table.{turned}
use Rattle.sig_queue.specs.declared.slot.Slot.{Slot}
use Rattle.sig_queue.specs.Tied.{Held}
use Rattle.sig_queue.proofs.Fetches.{turn_on}
use Rattle.sig_queue.proofs.Bodies.{Keeps, up_to_a_count}
use Rattle.sig_queue.proofs.fetch_find.bring_front.Code as code
use Rattle.sig_queue.proofs.fetch_find.bring_front.Goals as goal

pub loop-preserved : goal.loop-preserved
loop-preserved c = let inv = c.loop.invariant in let e = c.turn.ensures in let below : c.loop.counter < length c.args.place.now.me.1 = omega arith in record {
  table = e.0 ∙ inv.table;
  id = e.1 ∙ inv.id;
  me = e.2 ∙ (ap (λ (m : Held). let r : Held = (m.0, turned m.1) in r) inv.me ∙ ap (λ (z : List (ℕ × Slot)). let r : Held = (c.args.place.now.me.0, z) in r) (turn_on c.args.place.now.me.1 c.loop.counter below));
}

code_keeps : Keeps (up_to_a_count ∷ []) code.function
code_keeps = (refl, refl)
