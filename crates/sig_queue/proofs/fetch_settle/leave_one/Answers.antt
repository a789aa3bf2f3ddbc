use Rattle.std.proofs.Common.{ℕ, ap, refl, []}
use Rattle.sig_queue.specs.Tied.{Held}
use Rattle.sig_queue.proofs.Fetches.{front_of, standing_next, leaving_next, first_now, out_now, left_same_one}
use Rattle.sig_queue.proofs.Bodies.{Keeps}
use Rattle.sig_queue.proofs.fetch_settle.leave_one.Code as code
use Rattle.sig_queue.proofs.fetch_settle.leave_one.Goals as goal

pub bring_front-requires : goal.bring_front-requires
bring_front-requires c = let s = c.requires.standing in let low = c.requires.table.2 in let me : Held = c.args.place.now.me in let k : ℕ = c.args.buffer in let f = front_of c.args.held k me c.args.count s.0 low s.1 in f.within

pub leave_buffer-requires-clause-first : goal.leave_buffer-requires-clause-first
leave_buffer-requires-clause-first c = let s = c.requires.standing in let low = c.requires.table.2 in let me : Held = c.args.place.now.me in let k : ℕ = c.args.buffer in let f = front_of c.args.held k me c.args.count s.0 low s.1 in let m : Held = c.bring_front.new.place.me in let is = c.bring_front.ensures.round in first_now me m k c.args.count f is

pub leave_buffer-requires-clause-out : goal.leave_buffer-requires-clause-out
leave_buffer-requires-clause-out c = let s = c.requires.standing in let low = c.requires.table.2 in let me : Held = c.args.place.now.me in let k : ℕ = c.args.buffer in let f = front_of c.args.held k me c.args.count s.0 low s.1 in let m : Held = c.bring_front.new.place.me in let is = c.bring_front.ensures.round in out_now me m k c.args.count f is

pub returns-clause-standing : goal.returns-clause-standing
returns-clause-standing c = let s = c.requires.standing in let low = c.requires.table.2 in let me : Held = c.args.place.now.me in let k : ℕ = c.args.buffer in let f = front_of c.args.held k me c.args.count s.0 low s.1 in let m : Held = c.bring_front.new.place.me in let is = c.bring_front.ensures.round in let t = left_same_one me m k c.args.count f is _ _ c.leave_buffer.ensures.left c.set_back.ensures.back in standing_next c.args.held k me c.args.count s.0 low _ s.1 (ap (λ (x : Held). x.0.parts) t) (ap (λ (x : Held). x.0.mask) t) (ap (λ (x : Held). x.1) t)

pub returns-clause-leaving : goal.returns-clause-leaving
returns-clause-leaving c u e = let s = c.requires.standing in let low = c.requires.table.2 in let me : Held = c.args.place.now.me in let k : ℕ = c.args.buffer in let f = front_of c.args.held k me c.args.count s.0 low s.1 in let m : Held = c.bring_front.new.place.me in let is = c.bring_front.ensures.round in let t = left_same_one me m k c.args.count f is _ _ c.leave_buffer.ensures.left c.set_back.ensures.back in leaving_next u me c.set_back.new.place.me.0 c.set_back.new.place.me.1 k e (ap (λ (x : Held). x.0) t)

code_keeps : Keeps [] code.function
code_keeps = (refl, refl)
