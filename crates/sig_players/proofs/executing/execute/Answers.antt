use Rattle.std.proofs.Common.{sym, ◌∙◌}
use Rattle.sig_model.proofs.Guards.{exec_refused}
use Rattle.sig_players.proofs.PlayerLemmas.{waiting_none}
use Rattle.sig_players.proofs.executing.execute.Goals as goal

pub returns-then-not-can_exec-clause-made : goal.returns-then-not-can_exec-clause-made
returns-then-not-can_exec-clause-made g c = exec_refused c.args.process.now.running (sym c.can_exec.ensures ∙ c.if-not-can_exec.true)

pub returns-in-Waiting-clause-made : goal.returns-in-Waiting-clause-made
returns-in-Waiting-clause-made g c =
    waiting_none c.args.process.now c.exec.new.self c.in_ok-exec.field-0 (sym c.can_exec.ensures ∙ c.if-not-can_exec.false) c.in_ok-exec.ensures.exec c.in-Waiting.is
