use Rattle.std.proofs.Common.{sym, ap, ◌∙◌}
use Rattle.std.specs.Prelude.{option_copied}
use Rattle.sig_process.proofs.SoundLemmas.{pids_below}
use Rattle.sig_process.proofs.process.Process.open.Goals as goal

pub start-requires-clause-below : goal.start-requires-clause-below
start-requires-clause-below c =
    pids_below c.args.script.now c.args.pid.0 c.count.result c.in-Some.proc.now c.in_ok-proc.proc c.count.ensures.sound (sym c.proc.ensures ∙ ap option_copied c.in-Some.is) c.in_ok-proc.ensures
    c.count.ensures.count
