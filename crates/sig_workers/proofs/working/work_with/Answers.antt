use Rattle.std.proofs.Common.{arith}
use Rattle.sig_workers.proofs.PassLemmas.{same_part, one_pass, one_turn, or_true, acted_pass}
use Rattle.sig_workers.proofs.working.work_with.Goals as goal

pub returns-then-not-here-clause-passed : goal.returns-then-not-here-clause-passed
returns-then-not-here-clause-passed g c =
    let e = c.in_ok-here.ensures in
    one_pass c.args.part.now c.loop-pass.part c.pass_patiently.new.part e.same e.grow c.loop-pass.moved c.in_ok-here.here c.loop-pass.invariant.passed e.passed

pub loop-pass-preserved : goal.loop-pass-preserved
loop-pass-preserved g c =
    let e = c.in_ok-here.ensures in
    let inv = c.loop-pass.invariant in
    record {
      part = e.part;
      empty = e.empty;
      same = same_part c.args.part.now c.loop-pass.part c.pass_patiently.new.part inv.same e.same;
      first = λ _. or_true c.loop-pass.moved c.in_ok-here.here c.if-not-here.false;
      acted = λ _. acted_pass c.args.part.now c.loop-pass.part c.pass_patiently.new.part c.loop-pass.moved inv.passed inv.acted e.acted;
      passed = one_turn c.args.part.now c.loop-pass.part c.pass_patiently.new.part e.same e.grow c.loop-pass.moved c.in_ok-here.here c.if-not-here.false inv.passed e.passed;
    }

pub returns-then-not-here-clause-acted : goal.returns-then-not-here-clause-acted
returns-then-not-here-clause-acted g c =
    acted_pass c.args.part.now c.loop-pass.part c.pass_patiently.new.part c.loop-pass.moved c.loop-pass.invariant.passed c.loop-pass.invariant.acted c.in_ok-here.ensures.acted

pub returns-clause-acted : goal.returns-clause-acted
returns-clause-acted g c = c.loop-pass.invariant.acted (c.loop-pass.invariant.first (omega arith))
