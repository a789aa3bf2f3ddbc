use Rattle.std.proofs.Common.{◌≡◌, sym, ap, ◌∙◌, refl, [], ◌∷◌}
use Rattle.sig_layout.specs.declared.knows.Knows.{Knows}
use Rattle.sig_layout.specs.Views.{turned_away}
use Rattle.sig_queue.specs.Tied.{Held}
use Rattle.sig_queue.proofs.Waiting.{outer_none, outer_more, some_more}
use Rattle.sig_queue.proofs.Bodies.{Keeps, each}
use Rattle.sig_queue.proofs.remove.wait_outer.Code as code
use Rattle.sig_queue.proofs.remove.wait_outer.Goals as goal

pub loop-init : goal.loop-init
loop-init g c = record { table = refl; id = refl; me = refl; refused = c.requires.refused; so_far = outer_none c.args.place.now.me.0 }

pub loop-preserved : goal.loop-preserved
loop-preserved g c = let inv = c.loop.invariant in let r = c.try_outer.ensures.refused c.if-try_outer-eq0.false in
    let v : Knows = c.args.place.now.me.0 in let u : Knows = c.loop.place.me.0 in let w : Knows = c.try_outer.new.place.me.0 in
    let e : w ≡ turned_away u c.try_outer.result = ap (λ (m : Held). m.0) r.0 in record {
      table = c.try_outer.ensures.same.0 ∙ inv.table;
      id = c.try_outer.ensures.same.1 ∙ inv.id;
      me = r.0 ∙ (ap (λ (m : Held). (turned_away m.0 c.try_outer.result, m.1)) inv.me ∙ (λ i. (record v { refused = (sym e i).refused; tries = (sym e i).tries; saw_off = sym c.requires.idle.1 i }, c.args.place.now.me.1)));
      refused = some_more u.refused w.refused (ap (λ (z : Knows). z.refused) e);
      so_far = outer_more v u w c.try_outer.result inv.so_far (ap (λ (m : Held). m.0.senders) inv.me) (ap (λ (m : Held). m.0.role) inv.me) e r.1;
    }

code_keeps : Keeps (each "core::sync::endless::ForeverIterator::next" ∷ []) code.function
code_keeps = (refl, refl)
