use Rattle.sig_workers.proofs.Going.{goes_refl, goes_trans}
use Rattle.std.proofs.Common.{refl}
use Rattle.sig_workers.proofs.VisitLemmas.{handled_more}
use Rattle.sig_workers.proofs.stepping.handle_all.Goals as goal

pub loop-me-init : goal.loop-me-init
loop-me-init g c = record { goes = goes_refl c.args.shared.now.queues.now c.args.me.pid c.args.process.now.running c.args.seats.now.items c.requires.ready; clear = c.requires.clear; moved = refl }

pub loop-me-preserved : goal.loop-me-preserved
loop-me-preserved g c =
    let inv = c.loop-me.invariant in
    let e = c.in_ok-handle_one.ensures in
    record {
      goes = goes_trans c.args.shared.now.queues.now c.args.me.pid c.args.process.now.running c.loop-me.process.running c.handle_one.new.process.running c.args.seats.now.items c.loop-me.seats.items c.handle_one.new.seats.items
          inv.goes e.goes;
      clear = e.empty;
      moved = handled_more c.loop-me.moved c.args.process.now c.loop-me.process c.handle_one.new.process inv.moved e.more;
    }
