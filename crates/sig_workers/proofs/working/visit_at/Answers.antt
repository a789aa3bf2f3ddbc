use Rattle.std.proofs.Common.{◌<◌, length, refl, arith}
use Rattle.std.proofs.lemmas.Grind.{common_steps}
use Rattle.sig_workers.proofs.PartLemmas.{standing_at, running_at, visited_part, has_visited}
use Rattle.sig_workers.proofs.working.visit_at.Goals as goal

pub visit-requires-clause-ready : goal.visit-requires-clause-ready
visit-requires-clause-ready g c κs within =
    let lt : c.args.at < length c.args.part.now.procs.items = grind (arith, common_steps) in
    (c.requires.part.procs c.args.at c.index_mut-process.result.now.running (running_at c.args.part.now.procs.items c.args.at c.index_mut-process.result.now lt c.index_mut-process.ensures.value)).ready

pub visit-requires-clause-clear : goal.visit-requires-clause-clear
visit-requires-clause-clear g c κs within =
    let lt : c.args.at < length c.args.part.now.procs.items = grind (arith, common_steps) in
    (c.requires.part.procs c.args.at c.index_mut-process.result.now.running (running_at c.args.part.now.procs.items c.args.at c.index_mut-process.result.now lt c.index_mut-process.ensures.value)).clear

pub returns-clause-part : goal.returns-clause-part
returns-clause-part g c =
    let lt : c.args.at < length c.args.part.now.procs.items = grind (arith, common_steps) in
    let there = running_at c.args.part.now.procs.items c.args.at c.index_mut-process.result.now lt c.index_mut-process.ensures.value in
    visited_part c.args.shared.now.queues.now c.args.part.now _ c.requires.part c.args.at c.index_mut-process.result.now c.visit.new.process there refl refl refl c.in_ok-moved.ensures.goes c.in_ok-moved.ensures.empty

pub returns-clause-visited : goal.returns-clause-visited
returns-clause-visited g c =
    let lt : c.args.at < length c.args.part.now.procs.items = grind (arith, common_steps) in
    let there = running_at c.args.part.now.procs.items c.args.at c.index_mut-process.result.now lt c.index_mut-process.ensures.value in
    has_visited c.args.part.now.procs.items c.args.at c.index_mut-process.result.now c.visit.new.process there c.in_ok-moved.ensures.goes.events c.in_ok-moved.moved c.in_ok-moved.ensures.moved

pub returns-clause-acted : goal.returns-clause-acted
returns-clause-acted g c =
    let lt : c.args.at < length c.args.part.now.procs.items = grind (arith, common_steps) in
    record {
      old = c.index_mut-process.result.now;
      there = standing_at c.args.part.now.procs.items c.args.at c.index_mut-process.result.now lt c.index_mut-process.ensures.value;
      new = c.visit.new.process;
      set = refl;
      acted = c.in_ok-moved.ensures.acted;
    }
