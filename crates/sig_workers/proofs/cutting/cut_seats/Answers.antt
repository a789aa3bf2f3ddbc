use Rattle.std.proofs.Common.{◌≡◌, ◌<◌, ◌+◌, [], ◌∷◌, List, length, sym, ap, ◌∙◌, subst, arith, length-set, length-append}
use Rattle.sig_queue.specs.Seats.{Seated}
use Rattle.sig_workers.proofs.PutLemmas.{at_place}
use Rattle.sig_workers.proofs.CutLemmas.{FreshTo, fresh_pushed, fresh_set, rest_set, all_fresh, fresh_here}
use Rattle.sig_workers.proofs.cutting.cut_seats.Goals as goal

-- src/cutting.rt:48:5
pub loop-at-preserved : goal.loop-at-preserved
loop-at-preserved c =
    let inv = c.loop-at.invariant in
    let lt : c.loop-at.at < length c.args.queues.now = c.loop-at-test.true in
    let there = at_place c.args.queues.now c.loop-at.at c.index-queues-at.result lt c.index-queues-at.is in
    let mine = at_place c.loop-at.seats.items c.loop-at.at c.index_mut.result.now (omega (arith, lt, inv.many)) c.index_mut.ensures.value in
    record {
      many = length-set c.loop-at.seats.items c.loop-at.at c.cut_one-other.new.seat ∙ inv.many;
      cut = ap (λ (z : List Seated). length z) c.in_ok-push.ensures.items ∙ length-append c.loop-at.others.items (c.cut_one-other.result ∷ []) ∙ ap (λ z. z + 1) inv.cut;
      rest = rest_set c.loop-at.seats.items c.args.seats.now.items c.loop-at.at c.cut_one-other.new.seat inv.rest;
      left = fresh_set c.args.queues.now 0 c.args.first c.loop-at.at c.loop-at.seats.items c.index_mut.result.now c.cut_one-other.new.seat c.index-queues-at.result mine there c.cut_one-other.ensures.left inv.left;
      right = subst (FreshTo c.args.queues.now c.args.first c.args.count (c.loop-at.at + 1)) (sym c.in_ok-push.ensures.items) (fresh_pushed c.args.queues.now c.args.first c.args.count c.loop-at.at c.loop-at.others.items c.cut_one-other.result c.index-queues-at.result inv.cut there c.cut_one-other.ensures.right inv.right);
    }

pub cut_one-other-requires-clause-fresh : goal.cut_one-other-requires-clause-fresh
cut_one-other-requires-clause-fresh c =
    let inv = c.loop-at.invariant in
    let lt : c.loop-at.at < length c.args.queues.now = c.loop-at-test.true in
    let there = at_place c.args.queues.now c.loop-at.at c.index-queues-at.result lt c.index-queues-at.is in
    let mine = at_place c.loop-at.seats.items c.loop-at.at c.index_mut.result.now (omega (arith, lt, inv.many)) c.index_mut.ensures.value in
    fresh_here c.args.queues.now 0 (c.args.first + c.args.count) c.loop-at.at c.args.seats.now.items c.index_mut.result.now c.index-queues-at.result c.requires.fresh (sym (inv.rest c.loop-at.at (omega arith)) ∙ mine) there

pub returns-clause-left : goal.returns-clause-left
returns-clause-left c = all_fresh c.args.queues.now 0 c.args.first c.loop-at.at c.loop-at.seats.items c.loop-at.invariant.many c.loop-at-test.false c.loop-at.invariant.left

pub returns-clause-right : goal.returns-clause-right
returns-clause-right c = all_fresh c.args.queues.now c.args.first c.args.count c.loop-at.at c.loop-at.others.items (let e : length c.loop-at.others.items ≡ length c.args.queues.now = omega (arith, c.loop-at.invariant.cut, c.loop-at-test.false, c.loop-at.auto.at-end) in e) c.loop-at-test.false c.loop-at.invariant.right
