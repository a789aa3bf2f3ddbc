use Rattle.std.proofs.Common.{◌<◌, length, arith}
use Rattle.std.proofs.lemmas.Grind.{common_steps}
use Rattle.sig_workers.proofs.PutLemmas.{at_place}
use Rattle.sig_workers.proofs.FetchLemmas.{fetch_own, fetched_arriving, fetched_continues, fetch_goes, taken_ok}
use Rattle.sig_workers.proofs.fetching.fetch.Goals as goal

pub fetch_at-requires-clause-own : goal.fetch_at-requires-clause-own
fetch_at-requires-clause-own g c =
    let lt : c.args.me.pid < length c.args.seats.now.items = grind (arith, common_steps) in
    let few : c.args.me.pid < length c.args.shared.now.queues.now = grind (arith, common_steps, c.requires.ready.many) in
    fetch_own c.args.shared.now.queues.now c.args.me.pid c.args.process.now.running c.args.seats.now.items c.index_mut.result.now c.index-queues-at.result c.requires.ready
    (at_place c.args.seats.now.items c.args.me.pid c.index_mut.result.now lt c.index_mut.ensures.value) (at_place c.args.shared.now.queues.now c.args.me.pid c.index-queues-at.result few c.index-queues-at.is)

pub fetch_at-requires-clause-role : goal.fetch_at-requires-clause-role
fetch_at-requires-clause-role g c =
    let lt : c.args.me.pid < length c.args.seats.now.items = grind (arith, common_steps) in
    (c.requires.ready.takes c.index_mut.result.now (at_place c.args.seats.now.items c.args.me.pid c.index_mut.result.now lt c.index_mut.ensures.value)).role

pub take_in-requires-clause-arriving : goal.take_in-requires-clause-arriving
take_in-requires-clause-arriving g c =
    let lt : c.args.me.pid < length c.args.seats.now.items = grind (arith, common_steps) in
    let few : c.args.me.pid < length c.args.shared.now.queues.now = grind (arith, common_steps, c.requires.ready.many) in
    fetched_arriving c.args.shared.now.queues.now c.args.me.pid c.args.process.now.running c.args.seats.now.items c.requires.ready c.index_mut.result.now c.fetch_at.new.seat
    (at_place c.args.seats.now.items c.args.me.pid c.index_mut.result.now lt c.index_mut.ensures.value) c.index-queues-at.result (at_place c.args.shared.now.queues.now c.args.me.pid c.index-queues-at.result few c.index-queues-at.is)
    c.fetch_at.new.into.items c.in_ok-fetch_at.ensures

pub take_in-requires-clause-continues : goal.take_in-requires-clause-continues
take_in-requires-clause-continues g c =
    let lt : c.args.me.pid < length c.args.seats.now.items = grind (arith, common_steps) in
    let few : c.args.me.pid < length c.args.shared.now.queues.now = grind (arith, common_steps, c.requires.ready.many) in
    fetched_continues c.args.shared.now.queues.now c.args.me.pid c.args.process.now.running c.args.seats.now.items c.requires.ready c.index_mut.result.now c.fetch_at.new.seat
    (at_place c.args.seats.now.items c.args.me.pid c.index_mut.result.now lt c.index_mut.ensures.value) c.index-queues-at.result (at_place c.args.shared.now.queues.now c.args.me.pid c.index-queues-at.result few c.index-queues-at.is)
    c.fetch_at.new.into.items c.in_ok-fetch_at.ensures

pub returns-clause-goes : goal.returns-clause-goes
returns-clause-goes g c =
    let lt : c.args.me.pid < length c.args.seats.now.items = grind (arith, common_steps) in
    let few : c.args.me.pid < length c.args.shared.now.queues.now = grind (arith, common_steps, c.requires.ready.many) in
    fetch_goes c.args.shared.now.queues.now c.args.me.pid c.args.process.now.running c.args.seats.now.items c.requires.ready c.index_mut.result.now c.fetch_at.new.seat
    (at_place c.args.seats.now.items c.args.me.pid c.index_mut.result.now lt c.index_mut.ensures.value) c.index-queues-at.result (at_place c.args.shared.now.queues.now c.args.me.pid c.index-queues-at.result few c.index-queues-at.is)
    c.fetch_at.new.into.items c.in_ok-fetch_at.ensures c.take_in.new.self.running c.take_in.result (taken_ok c.args.process.now c.take_in.new.self c.fetch_at.new.into.items c.take_in.new.signals.items c.take_in.result c.take_in.ensures)
