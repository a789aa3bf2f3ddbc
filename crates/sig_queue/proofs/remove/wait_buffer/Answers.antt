use Rattle.std.proofs.Common.{◌≡◌, ◌+◌, sym, ap, ◌∙◌, refl, [], ◌∷◌}
use Rattle.sig_layout.specs.declared.knows.Knows.{Knows}
use Rattle.sig_layout.specs.Views.{turned_away_at}
use Rattle.sig_queue.specs.Tied.{Held}
use Rattle.sig_queue.proofs.Waiting.{refused_more}
use Rattle.sig_queue.proofs.Bodies.{Keeps, each}
use Rattle.sig_queue.proofs.remove.wait_buffer.Code as code
use Rattle.sig_queue.proofs.remove.wait_buffer.Goals as goal

pub loop-preserved : goal.loop-preserved
loop-preserved g c = let inv = c.loop.invariant in let r = c.try_buffer.ensures.refused c.if-try_buffer-eq0.false in
    let v : Knows = c.args.place.now.me.0 in let u : Knows = c.loop.place.me.0 in let w : Knows = c.try_buffer.new.place.me.0 in
    let e : w ≡ turned_away_at u (c.args.buffer + 3) c.try_buffer.result = ap (λ (m : Held). m.0) r.0 in record {
      table = c.try_buffer.ensures.same.0 ∙ inv.table;
      id = c.try_buffer.ensures.same.1 ∙ inv.id;
      me = r.0 ∙ (ap (λ (m : Held). (turned_away_at m.0 (c.args.buffer + 3) c.try_buffer.result, m.1)) inv.me ∙ (λ i. (record v { tries = (sym e i).tries; saw_off = sym c.requires.bare.1 i }, c.args.place.now.me.1)));
      so_far = refused_more (c.args.buffer + 3) v u w c.try_buffer.result inv.so_far (ap (λ (m : Held). m.0.senders) inv.me) (ap (λ (m : Held). m.0.role) inv.me) (ap (λ (z : Knows). z.tries) e) r.1;
    }

code_keeps : Keeps (each "core::sync::endless::ForeverIterator::next" ∷ []) code.function
code_keeps = (refl, refl)
