use Rattle.std.proofs.Common.{◌<◌, ◌∙◌, length, sym, ap, arith}
use Rattle.std.specs.Prelude.{not, ◌==◌}
use Rattle.std.proofs.lemmas.Grind.{common_steps}
use Rattle.sig_model.specs.OneWorker.{event_count}
use Rattle.sig_process.specs.Standing.{runnings_of}
use Rattle.sig_workers.proofs.IdleLemmas.{idle_visit, events_here}
use Rattle.sig_workers.proofs.PartLemmas.{running_at}
use Rattle.sig_workers.proofs.visiting.visit_counted.Goals as goal

pub returns-then-is_idle-clause-visit : goal.returns-then-is_idle-clause-visit
returns-then-is_idle-clause-visit g c =
    let procs = c.args.procs.now.items in
    let lt : c.args.at < length procs = grind (arith, common_steps) in
    sym (idle_visit (runnings_of procs) c.args.at c.index.result.now.running (running_at procs c.args.at c.index.result.now lt c.index.ensures) (c.is_idle.ensures.idle c.if-is_idle.true))

pub returns-clause-moved : goal.returns-clause-moved
returns-clause-moved g c =
    let procs = c.args.procs.now.items in
    let later = c.visit_one.new.procs.items in
    let lt : c.args.at < length procs = grind (arith, common_steps) in
    let still : c.args.at < length later = grind (arith, common_steps, c.in_ok-visit_one.ensures.len) in
    let before = events_here procs c.args.at c.index-2.result.now c.events.result.now c.len-before.result lt c.index-2.ensures c.events.ensures c.len-before.ensures in
    let after = events_here later c.args.at c.index-3.result.now c.events-2.result.now c.len-after.result still c.index-3.ensures c.events-2.ensures c.len-after.ensures in
    ap (λ n. not (n == c.len-after.result)) before ∙ ap (λ n. not (event_count c.args.at (runnings_of procs) == n)) after
