use Rattle.std.proofs.Common.{rules, sym, ap, ◌∙◌, ◌+◌, ◌*◌, ◌<◌, ◌∷◌, [], ℕ, arith, refl}
use Rattle.atomic_table.specs.Table.{rest}
use Rattle.sig_queue.specs.declared.slot.Slot.TheVariants as slot
use Rattle.sig_layout.specs.Views.{flag, tail}
use Rattle.sig_queue.specs.Parts.{first_part, held_or}
use Rattle.sig_queue.proofs.Ties.{takes_part, word_is}
use Rattle.sig_queue.proofs.Bodies.{OneStep}
use Rattle.sig_queue.proofs.words.buffer_steps.leave_part.Code as code
use Rattle.sig_queue.proofs.words.buffer_steps.leave_part.Goals as goal

pub store-requires : goal.store-requires
store-requires c = let e = c.requires.first.1 in let low : (first_part c.args.place.now.me.0.parts).number < 64 = (let b = c.requires.table.2 in omega (arith, e)) in (search rules, search rules, takes_part _ _ _ (24 + c.args.buffer * 8) _ (first_part c.args.place.now.me.0.parts) (tail c.args.place.now.me.0.parts) low (word_is c.args.buffer e) c.requires.first.0 (held_or c.args.place.now.me.0.held) c.requires.fetching.0 c.requires.fetching.1 (ap (flag c.args.place.now.me.0.mask) e ∙ c.requires.fetching.2) (c.requires.out ∙ ap (λ (n : ℕ). (n + 1, slot.List ([])) ∷ rest c.args.place.now.me.1) (sym e)))

one_step : OneStep code.function
one_step = (refl, refl, refl)
