use Rattle.std.proofs.Common.{refl}
use Rattle.sig_host.specs.Told.{text_in}
use Rattle.sig_host.proofs.RunLemmas.{no_script, script_run}
use Rattle.sig_host.proofs.alone.run_settings.Goals as goal

pub returns-in-Ok-clause-run : goal.returns-in-Ok-clause-run
returns-in-Ok-clause-run g c =
    script_run _ _ 1 c.args.settings.generate c.in-Ok.script c.is_some.result c.write_run.result.status (text_in c.write_run.result.summary) c.is_some.ensures
    c.in-Ok.ensures.script (c.write_run.ensures 1 c.in-Ok.script c.is_some.result c.texts_alone.ensures)

pub returns-in-Err-clause-run : goal.returns-in-Err-clause-run
returns-in-Err-clause-run g c =
    no_script _ _ 1 c.args.settings.generate c.in-Err.status c.short.result c.short.ensures.status c.short.ensures.summary c.in-Err.ensures.script (refl, refl)
