use Rattle.std.proofs.Common.{refl, sym, ap, subst, ◌∙◌, arith}
use Rattle.sig_model.specs.Running.{Running}
use Rattle.sig_workers.specs.Gone.{Goes}
use Rattle.sig_workers.proofs.Going.{goes_refl}
use Rattle.sig_workers.proofs.OneEvent.{executed_one}
use Rattle.sig_workers.proofs.VisitLemmas.{stepped, waited, event_ready, event_goes, event_more}
use Rattle.sig_model.proofs.Guards.{exec_refused}
use Rattle.sig_workers.proofs.stepping.exec_one.Goals as goal

pub returns-then-not-can_exec-clause-moved : goal.returns-then-not-can_exec-clause-moved
returns-then-not-can_exec-clause-moved g c = (refl, exec_refused c.args.process.now.running (sym c.can_exec.ensures ∙ c.if-not-can_exec.true), omega arith)

pub put_all-requires-after_bounds : goal.put_all-requires-after_bounds
put_all-requires-after_bounds g c κs within =
    event_ready c.args.shared.now.queues.now c.args.me.pid c.args.process.now.running c.exec.new.self.running c.exec.new.self.running c.args.seats.now.items c.args.seats.now.items
    (executed_one c.args.process.now.running c.exec.new.self.running c.requires.ready.keeping (stepped c.args.process.now c.exec.new.self c.in_ok-exec.field-0 c.in-Stepped.is c.in_ok-exec.ensures.exec)) c.requires.ready

pub returns-in_ok-put_all-in-Stepped-clause-goes :
    goal.returns-in_ok-put_all-in-Stepped-clause-goes
returns-in_ok-put_all-in-Stepped-clause-goes g c =
    event_goes c.args.shared.now.queues.now c.args.me.pid c.args.process.now.running c.exec.new.self.running c.put_all.new.process.running c.args.seats.now.items c.put_all.new.seats.items
    (executed_one c.args.process.now.running c.exec.new.self.running c.requires.ready.keeping (stepped c.args.process.now c.exec.new.self c.in_ok-exec.field-0 c.in-Stepped.is c.in_ok-exec.ensures.exec)) c.requires.ready c.in_ok-put_all-in-Stepped.ensures.goes

pub returns-in_ok-put_all-in-Stepped-clause-moved :
    goal.returns-in_ok-put_all-in-Stepped-clause-moved
returns-in_ok-put_all-in-Stepped-clause-moved g c =
    event_more c.args.shared.now.queues.now c.args.me.pid c.args.process.now.running c.exec.new.self.running c.put_all.new.process.running c.args.seats.now.items c.put_all.new.seats.items
    (executed_one c.args.process.now.running c.exec.new.self.running c.requires.ready.keeping (stepped c.args.process.now c.exec.new.self c.in_ok-exec.field-0 c.in-Stepped.is c.in_ok-exec.ensures.exec)) c.requires.ready c.in_ok-put_all-in-Stepped.ensures.process

pub returns-in-Waiting-clause-moved : goal.returns-in-Waiting-clause-moved
returns-in-Waiting-clause-moved g c =
    waited c.args.process.now c.exec.new.self c.in_ok-exec.field-0 c.in-Waiting.is (sym c.can_exec.ensures ∙ c.if-not-can_exec.false) c.in_ok-exec.ensures.exec

pub returns-then-not-can_exec-clause-goes : goal.returns-then-not-can_exec-clause-goes
returns-then-not-can_exec-clause-goes g c = goes_refl c.args.shared.now.queues.now c.args.me.pid c.args.process.now.running c.args.seats.now.items c.requires.ready

pub returns-in-Waiting-clause-goes : goal.returns-in-Waiting-clause-goes
returns-in-Waiting-clause-goes g c =
    let queues = c.args.shared.now.queues.now in
    let pid = c.args.me.pid in
    let r : Running = c.args.process.now.running in
    let seats = c.args.seats.now.items in
    let same = waited c.args.process.now c.exec.new.self c.in_ok-exec.field-0 c.in-Waiting.is (sym c.can_exec.ensures ∙ c.if-not-can_exec.false) c.in_ok-exec.ensures.exec in
    subst (λ (t : Running). Goes queues pid r seats t seats) (sym same.0) (goes_refl queues pid r seats c.requires.ready)

pub returns-in-Waiting-clause-empty : goal.returns-in-Waiting-clause-empty
returns-in-Waiting-clause-empty g c =
    let same = waited c.args.process.now c.exec.new.self c.in_ok-exec.field-0 c.in-Waiting.is (sym c.can_exec.ensures ∙ c.if-not-can_exec.false) c.in_ok-exec.ensures.exec in
    ap (λ (t : Running). t.outbox) same.0 ∙ c.requires.clear
