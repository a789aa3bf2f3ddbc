use Rattle.std.proofs.Common.{◌≡◌, ℕ, ◌+◌, ◌-◌, ◌∙◌, subst, arith, refl, [], ◌∷◌}
use Rattle.sig_queue.specs.Fetching.{Standing}
use Rattle.sig_queue.proofs.Fetches.{front_of}
use Rattle.sig_queue.proofs.NextBits.{at_end, standing_to}
use Rattle.sig_layout.specs.declared.layout.TheConstants.{BUFFERS}
use Rattle.sig_queue.proofs.Bodies.{Keeps, up_to}
use Rattle.sig_queue.proofs.fetch_settle.empty_all.Code as code
use Rattle.sig_queue.proofs.fetch_settle.empty_all.Goals as goal

pub overflow_sub-buffers : goal.overflow_sub-buffers
overflow_sub-buffers c = let inv = c.loop-buffer.invariant in let k : ℕ = c.loop-buffer.buffer in let f = front_of c.args.held k c.loop-buffer.place.me c.loop-buffer.buffers inv.standing c.loop-buffer-test.true (inv.set c.loop-buffer-test.true) in let n = f.counted in omega arith

pub loop-buffer-init : goal.loop-buffer-init
loop-buffer-init c = let next = c.next_bit-buffer.ensures in record {
  table = refl;
  id = refl;
  standing = standing_to c.args.held c.args.place.now.me c.args.count 0 c.next_bit-buffer.result next.within.0 next.within.1 next.passed c.requires.standing;
  emptying = c.requires.emptying;
  fetching = c.requires.fetching;
  moved = refl;
  left = c.requires.total;
  room = c.requires.room;
  within = next.within.1;
  set = next.set;
}

pub empty_one-left-requires-clause-standing : goal.empty_one-left-requires-clause-standing
empty_one-left-requires-clause-standing c = let inv = c.loop-buffer.invariant in (inv.standing, inv.set c.loop-buffer-test.true)

pub loop-buffer-preserved : goal.loop-buffer-preserved
loop-buffer-preserved c = let inv = c.loop-buffer.invariant in let k : ℕ = c.loop-buffer.buffer in let next = c.next_bit-buffer-in-loop-buffer.ensures in record {
  table = c.empty_one-left.ensures.same.0 ∙ inv.table;
  id = c.empty_one-left.ensures.same.1 ∙ inv.id;
  standing = standing_to c.args.held c.empty_one-left.new.place.me (c.loop-buffer.buffers - 1) (k + 1) c.next_bit-buffer-in-loop-buffer.result next.within.0 next.within.1 next.passed c.empty_one-left.ensures.standing;
  emptying = c.empty_one-left.ensures.emptying c.args.place.now.me.0 inv.emptying;
  fetching = c.empty_one-left.ensures.fetching;
  moved = c.empty_one-left.ensures.moved ∙ inv.moved;
  left = c.empty_one-left.ensures.left;
  room = c.empty_one-left.ensures.room;
  within = next.within.1;
  set = next.set;
}

pub returns-clause-standing : goal.returns-clause-standing
returns-clause-standing c = let inv = c.loop-buffer.invariant in let e : c.loop-buffer.buffer ≡ BUFFERS = at_end c.loop-buffer.buffer inv.within c.loop-buffer-test.false in
    (c.loop-buffer.buffers, subst (λ (k : ℕ). Standing c.args.held k c.loop-buffer.place.me c.loop-buffer.buffers) e inv.standing)

code_keeps : Keeps (up_to BUFFERS ∷ []) code.function
code_keeps = (refl, refl)
