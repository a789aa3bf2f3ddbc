use Rattle.std.proofs.Common.{ap, sym, ◌∙◌, refl, []}
use Rattle.sig_layout.specs.Summaries.{due_at, is_remove}
use Rattle.sig_queue.specs.Tied.{Held}
use Rattle.sig_queue.proofs.Settling.{none_left, rest_is, outer_is, held_is, slots_are, finished, all_moved_in}
use Rattle.sig_queue.proofs.Bodies.{Keeps}
use Rattle.sig_queue.proofs.fetch_settle.finish.Code as code
use Rattle.sig_queue.proofs.fetch_settle.finish.Goals as goal

pub leave_fetch-requires-clause-held : goal.leave_fetch-requires-clause-held
leave_fetch-requires-clause-held c = let me : Held = c.empty_all.new.place.me in let m : Held = c.put_value.new.place.me in let st = c.empty_all.ensures.standing in let put = c.put_value.ensures.back in let em = c.empty_all.ensures.emptying in let h = c.requires.held in (em.outer, held_is me m c.args.outer c.args.found.now.held st.0 st.1 put c.args.place.now.me.0 h.0 em h.1 h.2 c.requires.fetching.3, c.is_removal_due-due.ensures ∙ (λ i. is_remove (due_at (sym c.requires.policy i) (outer_is me m c.args.outer c.args.found.now.held st.0 st.1 put c.args.place.now.me.0 h.0 em h.1 h.2 c.requires.fetching.3 i).journal)), slots_are me m c.args.outer c.args.found.now.held st.0 st.1 put c.args.place.now.me.0 h.0 em h.1 h.2 c.requires.fetching.3)

pub returns-clause-bare : goal.returns-clause-bare
returns-clause-bare c = let me : Held = c.empty_all.new.place.me in let m : Held = c.put_value.new.place.me in let st = c.empty_all.ensures.standing in let put = c.put_value.ensures.back in let em = c.empty_all.ensures.emptying in let h = c.requires.held in ap (λ (x : Held). x.1) c.leave_fetch.ensures.took ∙ rest_is me m c.args.outer c.args.found.now.held st.0 st.1 put

pub returns-clause-moved : goal.returns-clause-moved
returns-clause-moved c = let me : Held = c.empty_all.new.place.me in let m : Held = c.put_value.new.place.me in let st = c.empty_all.ensures.standing in let put = c.put_value.ensures.back in let em = c.empty_all.ensures.emptying in let h = c.requires.held in all_moved_in c.empty_all.new.into.items c.args.into.now.items c.empty_all.new.place.me.0.parts _ (none_left me m c.args.outer c.args.found.now.held st.0 st.1 put) c.empty_all.ensures.moved

pub returns-clause-finished : goal.returns-clause-finished
returns-clause-finished c = let me : Held = c.empty_all.new.place.me in let m : Held = c.put_value.new.place.me in let st = c.empty_all.ensures.standing in let put = c.put_value.ensures.back in let em = c.empty_all.ensures.emptying in let h = c.requires.held in finished me m c.args.outer c.args.found.now.held st.0 st.1 put c.args.place.now.me.0 h.0 em h.1 h.2 c.requires.fetching.3 _ _ (record { count = c.args.count; due = c.is_removal_due-due.result }) (ap (λ (x : Held). x.0) c.leave_fetch.ensures.took) c.leave_fetch.ensures.fresh c.leave_fetch.ensures.carried

code_keeps : Keeps [] code.function
code_keeps = (refl, refl)
