use Rattle.std.proofs.Common.{rules, ap, ◌∙◌, length, refl, []}
use Rattle.sig_queue.specs.declared.slot.Slot.TheVariants as slot
use Rattle.sig_queue.specs.Tables.{first_outer}
use Rattle.sig_queue.proofs.Ending.{starts, words_counted, slots_counted}
use Rattle.sig_queue.proofs.Bodies.{Keeps}
use Rattle.sig_queue.proofs.open.first_table.Code as code
use Rattle.sig_queue.proofs.open.first_table.Goals as goal

pub new-requires : goal.new-requires
new-requires c = starts _ _ _ c.requires.policy (search rules) (search rules)

pub returns-clause-table : goal.returns-clause-table
returns-clause-table c = let t = c.in_ok-made.ensures.table in (
  t.0 ∙ (ap length c.first_words-words.ensures ∙ words_counted c.args.setup.now.policy),
  t.1 ∙ (ap length c.in_ok-slots.ensures ∙ slots_counted (slot.Outer (first_outer c.args.setup.now.policy))),
  search rules,
)

code_keeps : Keeps [] code.function
code_keeps = (refl, refl)
