use Rattle.std.proofs.Common.{ap}
use Rattle.sig_workers.proofs.PutLemmas.{may_put, put_goes, kept_but_outbox}
use Rattle.sig_workers.proofs.Going.{goes_trans}
use Rattle.sig_workers.proofs.putting.put_all.Goals as goal

pub put_one-requires-clause-may : goal.put_one-requires-clause-may
put_one-requires-clause-may g c =
    may_put c.args.shared.now.queues.now c.args.me.pid c.loop-signal.process.running c.next_out.new.self.running c.in-Some.signal c.loop-signal.seats.items c.loop-signal.invariant.goes.ready (ap (λ z. z.running) c.in-Some.ensures.next)

pub loop-signal-preserved : goal.loop-signal-preserved
loop-signal-preserved g c = record {
  goes = goes_trans c.args.shared.now.queues.now c.args.me.pid c.args.process.now.running c.loop-signal.process.running c.next_out.new.self.running c.args.seats.now.items c.loop-signal.seats.items c.put_one.new.seats.items c.loop-signal.invariant.goes
      (put_goes c.args.shared.now.queues.now c.args.me.pid c.loop-signal.process.running c.next_out.new.self.running c.in-Some.signal c.loop-signal.seats.items c.loop-signal.invariant.goes.ready (ap (λ z. z.running) c.in-Some.ensures.next) c.in_ok-via.via c.put_one.new.seats.items c.in_ok-via.ensures);
  process = kept_but_outbox c.args.shared.now.queues.now c.args.me.pid c.loop-signal.process.running c.next_out.new.self.running c.in-Some.signal c.loop-signal.seats.items c.loop-signal.invariant.goes.ready (ap (λ z. z.running) c.in-Some.ensures.next) c.args.process.now.running c.loop-signal.invariant.process;
}
