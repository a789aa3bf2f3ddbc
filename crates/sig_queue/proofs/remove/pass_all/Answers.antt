use Rattle.std.proofs.Common.{◌≡◌, ℕ, ap, ◌∙◌, subst, arith, refl, [], ◌∷◌}
use Rattle.sig_queue.specs.Removing.{Passing, WaitedOneByOne}
use Rattle.sig_layout.specs.declared.knows.Knows.{Knows}
use Rattle.sig_layout.specs.declared.layout.TheConstants.{BUFFERS}
use Rattle.sig_queue.proofs.Waiting.{none_yet, one_more}
use Rattle.sig_queue.proofs.Bodies.{Keeps, up_to}
use Rattle.sig_queue.proofs.remove.pass_all.Code as code
use Rattle.sig_queue.proofs.remove.pass_all.Goals as goal

pub returns-clause-passing : goal.returns-clause-passing
returns-clause-passing g c = let all : c.loop-buffer.buffer ≡ 64 = omega arith in subst (λ (k : ℕ). Passing c.args.place.now.me.0 k c.loop-buffer.place.me c.loop-buffer.growing.list) all c.loop-buffer.invariant.passing

pub returns-clause-tries : goal.returns-clause-tries
returns-clause-tries g c = let all : c.loop-buffer.buffer ≡ 64 = omega arith in subst (λ (k : ℕ). WaitedOneByOne k c.args.place.now.me.0 c.loop-buffer.place.me.0) all c.loop-buffer.invariant.tries

pub loop-buffer-init : goal.loop-buffer-init
loop-buffer-init g c = record { table = refl; id = refl; passing = c.requires.passing; room = c.requires.room; tries = none_yet c.args.place.now.me.0 }

pub loop-buffer-preserved : goal.loop-buffer-preserved
loop-buffer-preserved g c = let inv = c.loop-buffer.invariant in let its = c.pass_one.ensures in record {
  table = its.same.0 ∙ inv.table;
  id = its.same.1 ∙ inv.id;
  passing = its.passing c.args.place.now.me.0 inv.passing c.requires.begins.0;
  room = its.room;
  tries = one_more c.loop-buffer.buffer c.args.place.now.me.0 c.loop-buffer.place.me.0 c.pass_one.new.place.me.0 inv.tries (ap (λ (z : Knows). z.senders) inv.passing.view) (ap (λ (z : Knows). z.role) inv.passing.view) its.tries;
}

code_keeps : Keeps (up_to BUFFERS ∷ []) code.function
code_keeps = (refl, refl)
