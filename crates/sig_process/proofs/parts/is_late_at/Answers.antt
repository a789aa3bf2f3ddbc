use Rattle.std.proofs.Common.{sym}
use Rattle.sig_model.specs.PrintedState.{is_late_signal}
use Rattle.sig_process.proofs.Lists.{any_at}
use Rattle.sig_process.proofs.parts.is_late_at.Goals as goal

pub returns : goal.returns
returns c =
    let signals = c.args.signals.now.items in
    sym (any_at is_late_signal signals c.args.at c.in-Some.signal.now (sym c.in-Some.ensures.value))
