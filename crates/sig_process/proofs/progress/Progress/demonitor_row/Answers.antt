use Rattle.std.proofs.Common.{ap, Some, ◌∙◌}
use Rattle.sig_model.specs.Executing.{built, demonitoring}
use Rattle.sig_process.specs.Progressing.{state_of}
use Rattle.sig_process.proofs.ValueLemmas.{with_reference}
use Rattle.sig_process.proofs.progress.Progress.demonitor_row.Goals as goal

pub returns-in-Ok : goal.returns-in-Ok
returns-in-Ok c =
    let s = state_of c.args.self.now in
    ap Some (with_reference s (built s.tables.env c.args.reference.now) (demonitoring s c.args.flush) c.in-Ok.reference c.in-Ok.ensures ∙ c.plan_demonitor.ensures)
