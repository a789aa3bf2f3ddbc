use Rattle.std.proofs.Common.{refl, inr, arith}
use Rattle.sig_workers.proofs.Going.{goes_refl, goes_trans}
use Rattle.sig_workers.proofs.IdleLemmas.{idle_still}
use Rattle.sig_workers.proofs.VisitLemmas.{visit_moved, visit_acted}
use Rattle.sig_workers.proofs.stepping.visit.Goals as goal

pub returns-clause-goes : goal.returns-clause-goes
returns-clause-goes g c =
    let queues = c.args.shared.now.queues.now in
    let pid = c.args.me.pid in
    let fetched = c.fetch_rung.new.process.running in
    let handled = c.handle_all.new.process.running in
    let executed = c.exec_one.new.process.running in
    let first = c.fetch_rung.new.seats.items in
    let later = c.handle_all.new.seats.items in
    let last = c.exec_one.new.seats.items in
    goes_trans queues pid c.args.process.now.running fetched executed c.args.seats.now.items first last c.in_ok-fetch_rung.ensures.goes
    (goes_trans queues pid fetched handled executed first later last c.in_ok-handled.ensures.goes c.in_ok-executed.ensures.goes)

pub returns-clause-moved : goal.returns-clause-moved
returns-clause-moved g c =
    visit_moved c.args.process.now c.fetch_rung.new.process c.handle_all.new.process c.exec_one.new.process c.in_ok-fetch_rung.ensures.events c.in_ok-handled.ensures.all c.in_ok-executed.ensures.goes.events
    c.in_ok-handled.handled c.in_ok-executed.executed c.in_ok-handled.ensures.moved c.in_ok-executed.ensures.moved

pub returns-clause-acted : goal.returns-clause-acted
returns-clause-acted g c =
    visit_acted c.args.process.now c.fetch_rung.new.process c.handle_all.new.process c.exec_one.new.process c.in_ok-fetch_rung.ensures.events c.in_ok-handled.ensures.all c.in_ok-executed.ensures.goes.events
    c.in_ok-handled.handled c.in_ok-executed.executed c.in_ok-fetch_rung.ensures.saved c.in_ok-handled.ensures.moved c.in_ok-executed.ensures.moved

-- it was passed over
pub returns-then-is_quiet-clause-goes : goal.returns-then-is_quiet-clause-goes
returns-then-is_quiet-clause-goes g c = goes_refl c.args.shared.now.queues.now c.args.me.pid c.args.process.now.running c.args.seats.now.items c.requires.ready

pub returns-then-is_quiet-clause-moved : goal.returns-then-is_quiet-clause-moved
returns-then-is_quiet-clause-moved g c = (refl, idle_still c.args.process.now.running (c.is_quiet.ensures c.if-is_quiet.true))

pub returns-then-is_quiet-clause-acted : goal.returns-then-is_quiet-clause-acted
returns-then-is_quiet-clause-acted g c = inr (refl, idle_still c.args.process.now.running (c.is_quiet.ensures c.if-is_quiet.true), omega arith)
