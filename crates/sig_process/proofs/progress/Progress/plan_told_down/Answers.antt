use Rattle.std.proofs.Common.{rules}
use Rattle.sig_process.proofs.progress.Progress.plan_told_down.Goals as goal

pub returns : goal.returns
returns c = search rules
