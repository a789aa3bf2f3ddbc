use Rattle.sig_inner.specs.Receiving.{scanned}
use Rattle.sig_inner.proofs.Answering.{answered_found, answered_none}
use Rattle.sig_patterns.specs.Inbox.{start_of}
use Rattle.sig_process.proofs.ReceiveLemmas.{hit_is, takes_one, goes_by}
use Rattle.sig_process.proofs.SoundLemmas.{unsaved}
use Rattle.sig_process.proofs.progress.Progress.receive.Goals as goal

pub take_found-requires-clause-found : goal.take_found-requires-clause-found
take_found-requires-clause-found g c =
    let p = c.args.self.now in
    let from = start_of p.tables.inner.queue.inbox c.using_ref-using.result in
    let is = answered_found p.tables.inner.queue from (scanned p.tables.inner.queue from c.args.receiving.now.clauses p.tables.env) c.in-Found.clause c.in-Found.looked c.in-Found.ensures.answer in
    let within = c.in-Found.ensures.within in
    let h = hit_is c.args.proc.now c.args.receiving.now c.args.self.now c.scan_messages.new.inner c.using_ref-using.result c.using_ref-using.ensures c.scan_messages.ensures.left c.requires.here
    c.in-Found.clause c.in-Found.looked is within.0 within.2 in
    (from, h.0, h.1)

pub returns-in_ok-take_found-in-Found-clause-gone : goal.returns-in_ok-take_found-in-Found-clause-gone
returns-in_ok-take_found-in-Found-clause-gone g c =
    let p = c.args.self.now in
    let from = start_of p.tables.inner.queue.inbox c.using_ref-using.result in
    let is = answered_found p.tables.inner.queue from (scanned p.tables.inner.queue from c.args.receiving.now.clauses p.tables.env) c.in-Found.clause c.in-Found.looked c.in-Found.ensures.answer in
    let within = c.in-Found.ensures.within in
    let h = hit_is c.args.proc.now c.args.receiving.now c.args.self.now c.scan_messages.new.inner c.using_ref-using.result c.using_ref-using.ensures c.scan_messages.ensures.left c.requires.here
    c.in-Found.clause c.in-Found.looked is within.0 within.2 in
    takes_one c.args.proc.now c.args.receiving.now c.args.self.now c.scan_messages.new.inner c.using_ref-using.result c.using_ref-using.ensures c.scan_messages.ensures.left c.requires.here
    c.args.pid.0 c.in-Found.clause c.in-Found.looked c.take_found.new.self h.0 h.1 (c.in_ok-take_found-in-Found.ensures.taken from h.0 h.1) c.in_ok-take_found-in-Found.ensures.unsaved

pub returns-in_ok-take_found-in-Found-clause-saved : goal.returns-in_ok-take_found-in-Found-clause-saved
returns-in_ok-take_found-in-Found-clause-saved g c = unsaved _ c.take_found.new.self c.in_ok-take_found-in-Found.ensures.unsaved

pub returns-in_ok-go_by-in-Some-clause-gone : goal.returns-in_ok-go_by-in-Some-clause-gone
returns-in_ok-go_by-in-Some-clause-gone g c =
    let p = c.args.self.now in
    let from = start_of p.tables.inner.queue.inbox c.using_ref-using.result in
    goes_by c.args.proc.now c.args.receiving.now c.args.self.now c.scan_messages.new.inner c.using_ref-using.result c.using_ref-using.ensures c.scan_messages.ensures.left c.requires.here
    c.args.pid.0 c.go_by.new.self c.in-Some.after c.in-None.looked c.in-Some.is
    (answered_none p.tables.inner.queue from (scanned p.tables.inner.queue from c.args.receiving.now.clauses p.tables.env) c.in-None.looked c.in-None.ensures.answer)
    c.in-None.ensures.within c.in_ok-go_by-in-Some.ensures.gone c.in_ok-go_by-in-Some.ensures.unsaved

pub returns-in_ok-go_by-in-Some-clause-saved : goal.returns-in_ok-go_by-in-Some-clause-saved
returns-in_ok-go_by-in-Some-clause-saved g c = unsaved _ c.go_by.new.self c.in_ok-go_by-in-Some.ensures.unsaved
