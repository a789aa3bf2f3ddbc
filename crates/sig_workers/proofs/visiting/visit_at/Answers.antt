use Rattle.std.proofs.Common.{◌<◌, length, arith}
use Rattle.std.proofs.lemmas.Grind.{common_steps}
use Rattle.sig_workers.proofs.PlaceLemmas.{visit_done, visit_placed, visit_arriving}
use Rattle.sig_workers.proofs.visiting.visit_at.Goals as goal

pub returns-clause-visit : goal.returns-clause-visit
returns-clause-visit g c =
    let lt : c.args.at < length c.args.procs.now.items = grind (arith, common_steps) in
    visit_done c.args.procs.now.items c.args.at c.index_mut.result.now lt c.index_mut.ensures.value c.visit_and_take.result c.visit_and_take.new.process c.visit_and_take.new.sent.items
    c.visit_and_take.ensures.process c.visit_and_take.ensures.sent

pub returns-clause-placed : goal.returns-clause-placed
returns-clause-placed g c =
    let lt : c.args.at < length c.args.procs.now.items = grind (arith, common_steps) in
    visit_placed c.args.procs.now.items c.args.at c.index_mut.result.now lt c.index_mut.ensures.value c.visit_and_take.result c.visit_and_take.new.process
    c.visit_and_take.ensures.process c.requires.placed

pub returns-clause-arriving : goal.returns-clause-arriving
returns-clause-arriving g c =
    let lt : c.args.at < length c.args.procs.now.items = grind (arith, common_steps) in
    visit_arriving c.args.procs.now.items c.args.at c.index_mut.result.now lt c.index_mut.ensures.value c.visit_and_take.result c.visit_and_take.new.sent.items c.requires.placed c.visit_and_take.ensures.arriving
