use Rattle.sig_workers.proofs.OneEvent.{handled_one_event}
use Rattle.sig_workers.proofs.VisitLemmas.{event_ready, event_goes, event_more, event_stamp}
use Rattle.sig_workers.proofs.stepping.handle_one.Goals as goal

pub put_all-requires-after_bounds : goal.put_all-requires-after_bounds
put_all-requires-after_bounds g c κs within =
    event_ready c.args.shared.now.queues.now c.args.me.pid c.args.process.now.running c.handle.new.self.running c.handle.new.self.running c.args.seats.now.items c.args.seats.now.items
    (handled_one_event c.args.process.now.running c.handle.new.self.running c.requires.ready.keeping c.in_ok-handle.ensures.0) c.requires.ready

pub returns-clause-goes : goal.returns-clause-goes
returns-clause-goes g c =
    event_goes c.args.shared.now.queues.now c.args.me.pid c.args.process.now.running c.handle.new.self.running c.put_all.new.process.running c.args.seats.now.items c.put_all.new.seats.items
    (handled_one_event c.args.process.now.running c.handle.new.self.running c.requires.ready.keeping c.in_ok-handle.ensures.0) c.requires.ready c.in_ok-put_all.ensures.goes

pub returns-clause-more : goal.returns-clause-more
returns-clause-more g c =
    event_more c.args.shared.now.queues.now c.args.me.pid c.args.process.now.running c.handle.new.self.running c.put_all.new.process.running c.args.seats.now.items c.put_all.new.seats.items
    (handled_one_event c.args.process.now.running c.handle.new.self.running c.requires.ready.keeping c.in_ok-handle.ensures.0) c.requires.ready c.in_ok-put_all.ensures.process

pub returns-clause-stamp : goal.returns-clause-stamp
returns-clause-stamp g c =
    event_stamp c.args.shared.now.queues.now c.args.me.pid c.args.process.now.running c.handle.new.self.running c.put_all.new.process.running c.args.seats.now.items c.put_all.new.seats.items
    (handled_one_event c.args.process.now.running c.handle.new.self.running c.requires.ready.keeping c.in_ok-handle.ensures.0) c.requires.ready c.in_ok-put_all.ensures.process
