use Rattle.std.proofs.Common.{◌≡◌, ◌-◌, ◌<◌, [], length}
use Rattle.std.specs.Bool.{MatchBool}
use Rattle.sig_workers.specs.Gone.{Goes}
use Rattle.sig_workers.proofs.stepping.handle_all.Given as goal

abbrev pub invariant-loop-me : goal.invariant-loop-me
invariant-loop-me g l = record {
  goes : Goes l.shared.queues.now l.me.pid l.fn.process.running l.fn.seats.items l.process.running l.seats.items;
  clear : l.process.running.outbox ≡ [];
  moved : MatchBool l.moved (length l.fn.process.running.events < length l.process.running.events) (l.process ≡ l.fn.process);
}

abbrev pub decreases-loop-me : goal.decreases-loop-me
decreases-loop-me g l = 4611686018427387904 - l.process.running.state.counts.stamp
