use Rattle.std.proofs.Common.{ap, ◌∙◌, refl, []}
use Rattle.sig_layout.specs.declared.knows.Knows.{Knows}
use Rattle.sig_queue.specs.Tied.{Held}
use Rattle.sig_queue.proofs.Settling.{seat_is, slot_is, rest_is, left_view}
use Rattle.sig_queue.proofs.Bodies.{Keeps}
use Rattle.sig_queue.proofs.fetch_settle.give_up.Code as code
use Rattle.sig_queue.proofs.fetch_settle.give_up.Goals as goal

pub leave_same-requires-clause-held : goal.leave_same-requires-clause-held
leave_same-requires-clause-held c = let me : Held = c.leave_all.new.place.me in let m : Held = c.put_value.new.place.me in let st = c.leave_all.ensures.standing in let put = c.put_value.ensures.back in let l = c.leave_all.ensures.leaving in (c.args.outer, ap (λ (v : Knows). v.held) (seat_is me m c.args.outer c.args.held st.0 st.1 put ∙ l.view) ∙ c.requires.held, slot_is me m c.args.outer c.args.held st.0 st.1 put)

pub returns-clause-bare : goal.returns-clause-bare
returns-clause-bare c = let me : Held = c.leave_all.new.place.me in let m : Held = c.put_value.new.place.me in let st = c.leave_all.ensures.standing in let put = c.put_value.ensures.back in let l = c.leave_all.ensures.leaving in ap (λ (x : Held). x.1) c.leave_same.ensures.left ∙ rest_is me m c.args.outer c.args.held st.0 st.1 put

pub returns-clause-left : goal.returns-clause-left
returns-clause-left c = let me : Held = c.leave_all.new.place.me in let m : Held = c.put_value.new.place.me in let st = c.leave_all.ensures.standing in let put = c.put_value.ensures.back in let l = c.leave_all.ensures.leaving in left_view me m c.args.outer c.args.held st.0 st.1 put c.args.place.now.me.0 _ l (ap (λ (x : Held). x.0) c.leave_same.ensures.left)

code_keeps : Keeps [] code.function
code_keeps = (refl, refl)
