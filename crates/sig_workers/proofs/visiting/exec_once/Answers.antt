use Rattle.std.proofs.Common.{sym, ◌∙◌}
use Rattle.sig_workers.proofs.RunLemmas.{exec_stays, exec_goes}
use Rattle.sig_workers.proofs.visiting.exec_once.Goals as goal

pub returns-else-can_exec : goal.returns-else-can_exec
returns-else-can_exec g c = sym (exec_stays c.args.process.now.running (sym c.can_exec.ensures ∙ c.if-can_exec.false))

pub returns-in_ok-exec : goal.returns-in_ok-exec
returns-in_ok-exec g c = exec_goes c.args.process.now c.exec.new.self c.in_ok-exec.field-0 (sym c.can_exec.ensures ∙ c.if-can_exec.true) c.in_ok-exec.ensures.exec
