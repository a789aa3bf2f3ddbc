use Rattle.std.proofs.Common.{◌-◌, sym, ◌∙◌, arith}
use Rattle.sig_workers.proofs.RunLemmas.{handle_stays, handle_none, turn_goes}
use Rattle.sig_workers.proofs.visiting.handle_at_most.Goals as goal

pub returns-then-not-can_handle : goal.returns-then-not-can_handle
returns-then-not-can_handle c =
    sym (handle_stays (c.args.count - c.loop-i._i) c.loop-i.process.running (sym c.can_handle.ensures ∙ c.if-not-can_handle.true)) ∙ c.loop-i.invariant

pub loop-i-preserved : goal.loop-i-preserved
loop-i-preserved c = turn_goes c.args.count c.loop-i._i c.loop-i.process.running c.handle.new.self.running c.loop-i-test.true c.in_ok-handle.ensures.0 ∙ c.loop-i.invariant

pub returns : goal.returns
returns c = sym (handle_none (c.args.count - c.loop-i._i) c.loop-i.process.running (omega arith)) ∙ c.loop-i.invariant
