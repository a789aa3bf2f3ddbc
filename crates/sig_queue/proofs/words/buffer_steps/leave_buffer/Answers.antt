use Rattle.std.proofs.Common.{rules, sym, ap, ◌∙◌, ◌+◌, ◌*◌, ◌<◌, ◌∷◌, ℕ, arith, refl}
use Rattle.atomic_table.specs.Table.{rest}
use Rattle.sig_queue.specs.declared.slot.Slot.TheVariants as slot
use Rattle.sig_layout.specs.Views.{tail}
use Rattle.sig_queue.specs.Parts.{first_part}
use Rattle.sig_queue.proofs.Ties.{leaves_buffer, word_is}
use Rattle.sig_queue.proofs.Bodies.{OneStep}
use Rattle.sig_queue.proofs.words.buffer_steps.leave_buffer.Code as code
use Rattle.sig_queue.proofs.words.buffer_steps.leave_buffer.Goals as goal

pub store-requires : goal.store-requires
store-requires c = let e = c.requires.first.1 in let low : (first_part c.args.place.now.me.0.parts).number < 64 = (let b = c.requires.table.2 in omega (arith, e)) in (search rules, search rules, leaves_buffer _ _ _ (24 + c.args.buffer * 8) _ (first_part c.args.place.now.me.0.parts) (tail c.args.place.now.me.0.parts) low (word_is c.args.buffer e) c.requires.first.0 (c.requires.out ∙ ap (λ (n : ℕ). (n + 1, slot.List ((first_part c.args.place.now.me.0.parts).list)) ∷ rest c.args.place.now.me.1) (sym e)))

one_step : OneStep code.function
one_step = (refl, refl, refl)
