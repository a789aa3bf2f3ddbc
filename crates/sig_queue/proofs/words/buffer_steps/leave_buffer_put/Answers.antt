use Rattle.std.proofs.Common.{rules, sym, ap, ◌∙◌, ◌+◌, ◌*◌, ◌<◌, ◌++◌, ◌∷◌, [], ℕ, arith, refl}
use Rattle.atomic_table.specs.Table.{rest}
use Rattle.sig_queue.specs.declared.slot.Slot.TheVariants as slot
use Rattle.sig_queue.specs.Parts.{first_part}
use Rattle.sig_queue.proofs.Ties.{puts_to_buffer, word_is}
use Rattle.sig_queue.proofs.Bodies.{OneStep}
use Rattle.sig_queue.proofs.words.buffer_steps.leave_buffer_put.Code as code
use Rattle.sig_queue.proofs.words.buffer_steps.leave_buffer_put.Goals as goal

pub store-requires : goal.store-requires
store-requires c = let e = c.requires.one.0.1 in let o = c.requires.out in let low : (first_part c.args.place.now.me.0.parts).number < 64 = (let b = c.requires.table.2 in omega (arith, e)) in (search rules, search rules, puts_to_buffer _ _ _ (24 + c.args.buffer * 8) _ (first_part c.args.place.now.me.0.parts) o.0 low (word_is c.args.buffer e) c.requires.one.0.0 c.requires.idle.0 c.requires.one.1 c.requires.one.2 c.requires.idle.1 o.1 o.2 (o.3 ∙ sym e) (o.4 ∙ ap (λ (n : ℕ). (n + 1, slot.List ((first_part c.args.place.now.me.0.parts).list ++ o.0 ∷ [])) ∷ rest c.args.place.now.me.1) (sym e)))

one_step : OneStep code.function
one_step = (refl, refl, refl)
