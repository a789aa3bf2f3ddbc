use Rattle.std.proofs.Common.{◌≡◌, List, subst}
use Rattle.std.specs.Prelude.{IfOk}
use Rattle.sig_record.specs.declared.report.Report.{Report}
use Rattle.sig_tool.proofs.replaying.record_again.Goals as goal

pub gather-requires-clause-clear : goal.gather-requires-clause-clear
gather-requires-clause-clear c = c.in_ok-made.ensures.made.clear

pub gather-requires-clause-by_pid : goal.gather-requires-clause-by_pid
gather-requires-clause-by_pid c = λ p r at. (c.in_ok-made.ensures.made.retraced.lawful.placed p r at).0

pub returns : goal.returns
returns c =
    subst (λ (z : List Report). IfOk c.gather.result (λ r. r ≡ z)) c.in_ok-made.ensures.again
    (c.gather.ensures.lawful c.args.given.now.script c.in_ok-made.ensures.made.retraced.lawful)
