use Rattle.sig_workers.proofs.PlaceLemmas.{visited_arriving}
use Rattle.sig_workers.proofs.visiting.visit_and_take.Goals as goal

pub returns-clause-arriving : goal.returns-clause-arriving
returns-clause-arriving g c =
    visited_arriving c.args.process.now.running c.visit_process.new.process.running c.take_outbox.new.into.items c.in_ok-visit_process.ensures c.take_outbox.ensures.arriving
