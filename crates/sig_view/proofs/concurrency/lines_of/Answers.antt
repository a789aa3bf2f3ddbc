use Rattle.sig_view.proofs.RangeLemmas.{lines_more}
use Rattle.sig_view.proofs.concurrency.lines_of.Goals as goal

pub loop-pid-preserved : goal.loop-pid-preserved
loop-pid-preserved c =
    lines_more c.args.ranges.now c.loop-pid.pid _ c.loop-pid.text.items c.put_range.new.text.items c.loop-pid-test.true c.loop-pid.invariant c.in_ok-put_range.ensures
