use Rattle.std.proofs.Common.{◌<◌, ◌≤◌, sym, ◌∙◌, arith, length}
use Rattle.std.proofs.lemmas.Grind.{common_steps}
use Rattle.sig_process.specs.Standing.{runnings_of}
use Rattle.sig_workers.specs.Room.{room}
use Rattle.sig_workers.proofs.RunLemmas.{pass_goes, pass_ends}
use Rattle.sig_workers.proofs.RoomLemmas.{pass_falls}
use Rattle.sig_model.proofs.ClearLemmas.{one_visit_clear}
use Rattle.sig_workers.proofs.one_worker.pass_all.Goals as goal

pub loop-at-preserved : goal.loop-at-preserved
loop-at-preserved g c =
    let lt : c.loop-at.at < length c.args.procs.now.items = grind (arith, common_steps) in
    let f = pass_falls c.loop-at.at (runnings_of c.loop-at.procs.items) (runnings_of c.visit_counted.new.procs.items) c.loop-at.moved c.in_ok-here.here (room (runnings_of c.args.procs.now.items))
    c.in_ok-here.ensures.visit c.in_ok-here.ensures.moved c.loop-at.invariant.most c.loop-at.invariant.falls in
    record {
      len = c.in_ok-here.ensures.len ∙ c.loop-at.invariant.len;
      rest = pass_goes (length c.args.procs.now.items) c.loop-at.at c.loop-at.moved c.in_ok-here.here (runnings_of c.loop-at.procs.items) (runnings_of c.visit_counted.new.procs.items) lt
          c.in_ok-here.ensures.visit c.in_ok-here.ensures.moved ∙ c.loop-at.invariant.rest;
      placed = c.in_ok-here.ensures.placed;
      empty = c.in_ok-here.ensures.empty;
      clear = λ h. one_visit_clear c.loop-at.at (runnings_of c.loop-at.procs.items) (runnings_of c.visit_counted.new.procs.items) c.in_ok-here.ensures.visit (c.loop-at.invariant.clear h);
      most = f.0;
      falls = f.1;
    }

pub returns-clause-pass : goal.returns-clause-pass
returns-clause-pass g c =
    let le : length c.args.procs.now.items ≤ c.loop-at.at = grind (arith, common_steps) in
    sym (pass_ends (length c.args.procs.now.items) c.loop-at.at c.loop-at.moved (runnings_of c.loop-at.procs.items) le) ∙ c.loop-at.invariant.rest
