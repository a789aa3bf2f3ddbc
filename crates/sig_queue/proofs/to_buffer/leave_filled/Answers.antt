use Rattle.std.proofs.Common.{◌≡◌, ◌+◌, ◌++◌, ◌∷◌, [], true, refl, ap, sym, ◌∙◌, subst}
use Rattle.atomic_table.specs.Table.{rest}
use Rattle.sig_kinds.specs.declared.signal.Signal.{Signal}
use Rattle.sig_layout.specs.Core.{buffer_of}
use Rattle.sig_layout.specs.Openings.{IsNext}
use Rattle.sig_layout.specs.Sets.{has}
use Rattle.sig_layout.specs.Views.{put_to_buffer}
use Rattle.sig_queue.specs.declared.slot.Slot.TheVariants as slot
use Rattle.sig_queue.specs.Parts.{first_part, IsOne}
use Rattle.sig_queue.specs.Tied.{Held, list_in}
use Rattle.sig_queue.specs.SeatWords.{key_of}
use Rattle.sig_queue.proofs.Bodies.{Keeps}
use Rattle.sig_queue.proofs.to_buffer.leave_filled.Code as code
use Rattle.sig_queue.proofs.to_buffer.leave_filled.Goals as goal

pub set_bit-requires-clause-one : goal.set_bit-requires-clause-one
set_bit-requires-clause-one c = c.requires.one

pub leave_buffer_put-requires-clause-one : goal.leave_buffer_put-requires-clause-one
leave_buffer_put-requires-clause-one c =
    subst (λ (m : Held). IsOne m.0.parts c.args.buffer × ((first_part m.0.parts).sure ≡ true) × ((first_part m.0.parts).set ≡ true)) (sym c.set_bit.ensures.set)
    ((refl, c.requires.one.0.1), c.requires.one.1, refl)

pub leave_buffer_put-requires-clause-out : goal.leave_buffer_put-requires-clause-out
leave_buffer_put-requires-clause-out c =
    subst (λ (m : Held). (x : Signal) × (has m.0.senders x.from.0 ≡ true) × IsNext (key_of c.args.words.now) m.0.put x × (buffer_of x.from.0 ≡ c.args.buffer)
    × (m.1 ≡ (c.args.buffer + 1, slot.List ((first_part m.0.parts).list ++ x ∷ [])) ∷ rest m.1)) (sym c.set_bit.ensures.set) c.requires.out

pub returns-clause-left : goal.returns-clause-left
returns-clause-left c = c.leave_buffer_put.ensures.left ∙ ap (λ (m : Held). let r : Held = (put_to_buffer m.0 (list_in m.1), rest m.1) in r) c.set_bit.ensures.set

code_keeps : Keeps [] code.function
code_keeps = (refl, refl)
