use Rattle.std.proofs.Common.{◌<◌, length, arith}
use Rattle.std.proofs.lemmas.Grind.{common_steps}
use Rattle.sig_workers.proofs.PutLemmas.{at_place, may_put_at, was_put}
use Rattle.sig_workers.proofs.putting.put_one.Goals as goal

pub put_at-put-requires-clause-own : goal.put_at-put-requires-clause-own
put_at-put-requires-clause-own g c =
    let lt : c.args.signal.to.0 < length c.args.seats.now.items = grind (arith, common_steps) in
    let few : c.args.signal.to.0 < length c.args.queues.now = grind (arith, common_steps) in
    let there = at_place c.args.seats.now.items c.args.signal.to.0 c.index_mut.result.now lt c.index_mut.ensures.value in
    (may_put_at c.args.queues.now c.index-queues-to.result c.index_mut.result.now c.args.signal (at_place c.args.queues.now c.args.signal.to.0 c.index-queues-to.result few c.index-queues-to.is) (c.requires.may c.index_mut.result.now there)).own

pub put_at-put-requires-clause-from : goal.put_at-put-requires-clause-from
put_at-put-requires-clause-from g c =
    let lt : c.args.signal.to.0 < length c.args.seats.now.items = grind (arith, common_steps) in
    (c.requires.may c.index_mut.result.now (at_place c.args.seats.now.items c.args.signal.to.0 c.index_mut.result.now lt c.index_mut.ensures.value)).sender

pub put_at-put-requires-clause-next : goal.put_at-put-requires-clause-next
put_at-put-requires-clause-next g c =
    let lt : c.args.signal.to.0 < length c.args.seats.now.items = grind (arith, common_steps) in
    let few : c.args.signal.to.0 < length c.args.queues.now = grind (arith, common_steps) in
    let there = at_place c.args.seats.now.items c.args.signal.to.0 c.index_mut.result.now lt c.index_mut.ensures.value in
    (may_put_at c.args.queues.now c.index-queues-to.result c.index_mut.result.now c.args.signal (at_place c.args.queues.now c.args.signal.to.0 c.index-queues-to.result few c.index-queues-to.is) (c.requires.may c.index_mut.result.now there)).next

pub returns : goal.returns
returns g c =
    let lt : c.args.signal.to.0 < length c.args.seats.now.items = grind (arith, common_steps) in
    was_put c.args.seats.now.items c.args.signal c.index_mut.result.now c.put_at-put.new.seat c.put_at-put.result (at_place c.args.seats.now.items c.args.signal.to.0 c.index_mut.result.now lt c.index_mut.ensures.value) c.put_at-put.ensures
