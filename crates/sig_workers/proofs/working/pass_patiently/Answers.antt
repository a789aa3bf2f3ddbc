use Rattle.sig_workers.specs.Parts.{procs_of}
use Rattle.sig_workers.proofs.PassLemmas.{same_part, grow_trans, pass_again, act_twice}
use Rattle.sig_workers.proofs.working.pass_patiently.Goals as goal

pub loop-again-preserved : goal.loop-again-preserved
loop-again-preserved g c =
    let start = c.args.part.now in
    let mid = c.loop-again.part in
    let later = c.pass-in-loop-again.new.part in
    let inv = c.loop-again.invariant in
    let e = c.in_ok-moved-2.ensures in
    record {
      part = e.part;
      empty = e.empty;
      same = same_part start mid later inv.same e.same;
      grow = grow_trans (procs_of start) (procs_of mid) (procs_of later) inv.grow e.grow;
      passed = pass_again start mid later c.loop-again.moved c.in_ok-moved-2.moved c.if-moved.false inv.passed e.passed;
      acted = act_twice start.procs.items mid.procs.items later.procs.items inv.acted e.acted;
    }
