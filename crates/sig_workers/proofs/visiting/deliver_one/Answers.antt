use Rattle.std.proofs.Common.{ap}
use Rattle.sig_workers.proofs.PlaceLemmas.{may_arrive, delivered, delivered_placed, if_arrived}
use Rattle.sig_workers.proofs.visiting.deliver_one.Goals as goal

pub arrive-requires : goal.arrive-requires
arrive-requires c =
    may_arrive c.args.procs.now.items c.args.signal.to.0 c.index_mut.result.now c.requires.arriving.below.to c.index_mut.ensures.value c.args.signal c.requires.placed c.requires.arriving

pub returns-clause-procs : goal.returns-clause-procs
returns-clause-procs c =
    if_arrived _ c.arrive.result c.arrive.ensures (λ same.
    delivered c.args.procs.now.items c.args.signal c.index_mut.result.now c.requires.arriving.below.to c.index_mut.ensures.value c.arrive.new.process (ap (λ z. z.running) same))

pub returns-clause-placed : goal.returns-clause-placed
returns-clause-placed c =
    if_arrived _ c.arrive.result c.arrive.ensures (λ same.
    delivered_placed c.args.procs.now.items c.args.signal c.index_mut.result.now c.requires.arriving.below.to c.index_mut.ensures.value c.arrive.new.process (ap (λ z. z.running) same) c.requires.placed)
