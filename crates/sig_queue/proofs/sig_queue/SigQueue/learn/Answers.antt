use Rattle.std.proofs.Common.{rules, ◌≡◌, ◌∙◌, ◌++◌, length, ap, refl, []}
use Rattle.sig_layout.specs.declared.knows.Knows.{Knows}
use Rattle.sig_layout.specs.Views.{joined}
use Rattle.sig_queue.proofs.Learning.{learned}
use Rattle.sig_queue.proofs.Bodies.{Keeps}
use Rattle.sig_queue.proofs.sig_queue.SigQueue.learn.Code as code
use Rattle.sig_queue.proofs.sig_queue.SigQueue.learn.Goals as goal

pub returns-clause-told : goal.returns-clause-told
returns-clause-told c =
    let v : Knows = c.seat.inside.place.me.0 in
    let kept : length c.seat.inside.kept.senders ≡ 4 = search rules in
    let four : length v.senders ≡ 4 = ap (λ l. length l) c.seat.invariant.keeps.senders_are ∙ kept in
    let both : c.merge_note.new.place.me.0 ≡ joined v c.note.inside.place.me.0 = search rules in
    let view : record v { told = v.told ++ c.note.inside.place.me.0.told } ≡ record c.args.seat.now.knows { told = c.args.seat.now.knows.told ++ c.args.note.knows.told } = search rules in
    both ∙ (learned v c.note.inside.place.me four c.note.invariant ∙ view)

code_keeps : Keeps [] code.function
code_keeps = (refl, refl)
