use Rattle.std.proofs.Common.{ap}
use Rattle.sig_process.specs.Plans.{outgoing_of}
use Rattle.sig_process.specs.declared.progress.Counts.{Counts}
use Rattle.sig_process.proofs.CommitLemmas.{bound_committable, executed_so}
use Rattle.sig_process.proofs.progress.Progress.commit_exec.Goals as goal

pub go_on-requires-clause-committable : goal.go_on-requires-clause-committable
go_on-requires-clause-committable c = bound_committable (outgoing_of c.args.execution.plan.posts) c.args.execution.binding c.args.self.now c.begin_exec.new.self c.in-Ok.ensures.state c.requires.committable

pub returns-in-Ok-clause-event : goal.returns-in-Ok-clause-event
returns-in-Ok-clause-event c =
    let gone = c.go_on.ensures in
    executed_so c.args.pid.0 c.args.execution c.args.self.now c.begin_exec.new.self c.go_on.new.self c.end_exec.new.self c.in-Ok.ensures
    (record {
      state = gone.state;
      executed = ap (λ (n : Counts). n.executed) gone.counts;
      owner = gone.owner;
      events = gone.events;
      handled = gone.handled;
      own = gone.own;
      taken_in = gone.taken_in;
      outbox = gone.outbox;
    })
    (record { inbox = c.end_exec.ensures.inbox; owner = c.end_exec.ensures.owner; rest = c.end_exec.ensures.rest })
    c.requires.owner
