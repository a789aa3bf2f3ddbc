use Rattle.std.proofs.Common.{◌≡◌, ℕ, List, ◌++◌, length, arith, ap, sym, ◌∙◌, subst, false, set, refl, []}
use Rattle.sig_kinds.specs.declared.signal.Signal.{Signal}
use Rattle.sig_layout.specs.declared.knows.Knows.{Knows}
use Rattle.sig_layout.specs.Views.{tail}
use Rattle.sig_queue.specs.Tied.{Held}
use Rattle.sig_queue.specs.Fetching.{all_of}
use Rattle.sig_queue.proofs.Fetches.{front_of, standing_next, emptying_next, first_now, out_now, list_found, left_part_one, counted_one, moved_one}
use Rattle.sig_queue.proofs.Bodies.{Keeps}
use Rattle.sig_queue.proofs.fetch_settle.empty_one.Code as code
use Rattle.sig_queue.proofs.fetch_settle.empty_one.Goals as goal

pub bring_front-requires : goal.bring_front-requires
bring_front-requires c = let s = c.requires.standing in let low = c.requires.table.2 in let me : Held = c.args.place.now.me in let k : ℕ = c.args.buffer in let f = front_of c.args.held k me c.args.count s.0 low s.1 in f.within

pub take_list-list-requires-clause-out : goal.take_list-list-requires-clause-out
take_list-list-requires-clause-out c = let s = c.requires.standing in let low = c.requires.table.2 in let me : Held = c.args.place.now.me in let k : ℕ = c.args.buffer in let f = front_of c.args.held k me c.args.count s.0 low s.1 in let m : Held = c.bring_front.new.place.me in let is = c.bring_front.ensures.round in (_, out_now me m k c.args.count f is)

pub overflow_sub-behind : goal.overflow_sub-behind
overflow_sub-behind c = let s = c.requires.standing in let low = c.requires.table.2 in let me : Held = c.args.place.now.me in let k : ℕ = c.args.buffer in let f = front_of c.args.held k me c.args.count s.0 low s.1 in let m : Held = c.bring_front.new.place.me in let is = c.bring_front.ensures.round in let l : List Signal = c.take_list-list.result in let found = list_found me m k c.args.count f is l c.take_list-list.ensures.list in let n = counted_one me m k c.args.count f is l found in omega arith

pub pour_with_room-requires : goal.pour_with_room-requires
pour_with_room-requires c = let s = c.requires.standing in let low = c.requires.table.2 in let me : Held = c.args.place.now.me in let k : ℕ = c.args.buffer in let f = front_of c.args.held k me c.args.count s.0 low s.1 in let m : Held = c.bring_front.new.place.me in let is = c.bring_front.ensures.round in let l : List Signal = c.take_list-list.result in let found = list_found me m k c.args.count f is l c.take_list-list.ensures.list in let n = counted_one me m k c.args.count f is l found in omega arith

pub leave_part-requires-clause-first : goal.leave_part-requires-clause-first
leave_part-requires-clause-first c = let s = c.requires.standing in let low = c.requires.table.2 in let me : Held = c.args.place.now.me in let k : ℕ = c.args.buffer in let f = front_of c.args.held k me c.args.count s.0 low s.1 in let m : Held = c.bring_front.new.place.me in let is = c.bring_front.ensures.round in subst (λ (v : Knows). let r : Type 0 = Rattle.sig_queue.specs.Parts.IsFirst v.parts k in r) (sym (ap (λ (x : Held). x.0) c.put_list.ensures.back ∙ ap (λ (x : Held). x.0) c.take_list-list.ensures.taken)) (first_now me m k c.args.count f is)

pub returns-clause-standing : goal.returns-clause-standing
returns-clause-standing c = let s = c.requires.standing in let low = c.requires.table.2 in let me : Held = c.args.place.now.me in let k : ℕ = c.args.buffer in let f = front_of c.args.held k me c.args.count s.0 low s.1 in let m : Held = c.bring_front.new.place.me in let is = c.bring_front.ensures.round in let t = left_part_one me m k c.args.count f is _ _ _ _ c.take_list-list.ensures.taken c.put_list.ensures.back c.leave_part.ensures.left in standing_next c.args.held k me c.args.count s.0 low _ s.1 (ap (λ (x : Held). x.0.parts) t) (ap (λ (x : Held). x.0.mask) t ∙ ap (λ (n : ℕ). set me.0.mask n false) f.first.1) (ap (λ (x : Held). x.1) t)

pub returns-clause-emptying : goal.returns-clause-emptying
returns-clause-emptying c u e = let s = c.requires.standing in let low = c.requires.table.2 in let me : Held = c.args.place.now.me in let k : ℕ = c.args.buffer in let f = front_of c.args.held k me c.args.count s.0 low s.1 in let m : Held = c.bring_front.new.place.me in let is = c.bring_front.ensures.round in let t = left_part_one me m k c.args.count f is _ _ _ _ c.take_list-list.ensures.taken c.put_list.ensures.back c.leave_part.ensures.left in emptying_next u me c.leave_part.new.place.me k e f.first (ap (λ (x : Held). x.0) t)

pub returns-clause-moved : goal.returns-clause-moved
returns-clause-moved c = let s = c.requires.standing in let low = c.requires.table.2 in let me : Held = c.args.place.now.me in let k : ℕ = c.args.buffer in let f = front_of c.args.held k me c.args.count s.0 low s.1 in let m : Held = c.bring_front.new.place.me in let is = c.bring_front.ensures.round in let l : List Signal = c.take_list-list.result in let found = list_found me m k c.args.count f is l c.take_list-list.ensures.list in let t = left_part_one me m k c.args.count f is _ _ _ _ c.take_list-list.ensures.taken c.put_list.ensures.back c.leave_part.ensures.left in ap (λ (z : List Signal). z ++ all_of c.leave_part.new.place.me.0.parts) c.pour_with_room.ensures.list ∙ moved_one me m k c.args.count f is l _ c.args.into.now.items found (ap (λ (x : Held). x.0.parts) t)

pub returns-clause-left : goal.returns-clause-left
returns-clause-left c = let s = c.requires.standing in let low = c.requires.table.2 in let me : Held = c.args.place.now.me in let k : ℕ = c.args.buffer in let f = front_of c.args.held k me c.args.count s.0 low s.1 in let m : Held = c.bring_front.new.place.me in let is = c.bring_front.ensures.round in let l : List Signal = c.take_list-list.result in let found = list_found me m k c.args.count f is l c.take_list-list.ensures.list in let n = counted_one me m k c.args.count f is l found in let t = left_part_one me m k c.args.count f is _ _ _ _ c.take_list-list.ensures.taken c.put_list.ensures.back c.leave_part.ensures.left in let now : length (all_of c.leave_part.new.place.me.0.parts) ≡ length (all_of (tail me.0.parts)) = ap (λ (x : Held). length (all_of x.0.parts)) t in omega arith

code_keeps : Keeps [] code.function
code_keeps = (refl, refl)
