use Rattle.std.proofs.Common.{◌≡◌, length}
use Rattle.sig_workers.specs.Gone.{Goes}
use Rattle.sig_workers.proofs.putting.put_all.Given as goal

abbrev pub invariant-loop-signal : goal.invariant-loop-signal
invariant-loop-signal g l = record {
  goes : Goes l.shared.queues.now l.me.pid l.fn.process.running l.fn.seats.items l.process.running l.seats.items;
  process : l.process.running ≡ record l.fn.process.running { outbox = l.process.running.outbox };
}

abbrev pub decreases-loop-signal : goal.decreases-loop-signal
decreases-loop-signal g l = length l.process.running.outbox
