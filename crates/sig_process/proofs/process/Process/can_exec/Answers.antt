use Rattle.std.proofs.Common.{rules}
use Rattle.sig_model.specs.Running.{can_exec}
use Rattle.sig_process.proofs.process.Process.can_exec.Goals as goal

pub returns-then-not-is_cut : goal.returns-then-not-is_cut
unfolding can_exec
returns-then-not-is_cut c = search rules
