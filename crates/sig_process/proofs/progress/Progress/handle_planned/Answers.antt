use Rattle.sig_process.proofs.DueLemmas.{plan_committable}
use Rattle.sig_process.proofs.HandleLemmas.{planned_handled}
use Rattle.sig_process.proofs.progress.Progress.handle_planned.Goals as goal

pub commit_handle-requires-clause-committable : goal.commit_handle-requires-clause-committable
commit_handle-requires-clause-committable c = plan_committable c.args.proc.now c.args.self.now c.in_ok-plan.plan c.args.pid.0 c.requires.due c.in_ok-plan.ensures

pub returns : goal.returns
returns c =
    let done = c.commit_handle.ensures in
    planned_handled c.args.pid.0 c.args.self.now c.commit_handle.new.self c.in_ok-plan.plan c.requires.placed c.requires.due.saved.ended c.commit_handle.result c.in_ok-plan.ensures done.event done.steady done.end done.queue
