use Rattle.std.proofs.Common.{◌++◌, ap}
use Rattle.sig_workers.proofs.CloseLemmas.{one_gathered}
use Rattle.sig_workers.proofs.closing.gather.Goals as goal

pub loop-signal-init : goal.loop-signal-init
loop-signal-init c = ap (λ z. z ++ c.args.rest) c.requires

pub loop-signal-preserved : goal.loop-signal-preserved
loop-signal-preserved c =
    one_gathered c.loop-signal.left.items c.add_signal.new.signals.items c.loop-signal.rest c.next.new.self c.args.rest c.in-Some.signal c.in_ok-add_signal.ensures c.in-Some.ensures c.loop-signal.invariant
