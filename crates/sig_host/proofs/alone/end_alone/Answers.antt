use Rattle.std.proofs.Common.{arith, map, rules, string_bytes}
use Rattle.sig_host.specs.Told.{text_in}
use Rattle.sig_host.specs.Words.{AreRefused}
use Rattle.sig_host.proofs.RunLemmas.{answered_alone, of_one, of_refused}
use Rattle.sig_host.proofs.alone.end_alone.Goals as goal

pub returns-else-several-clause-answer : goal.returns-else-several-clause-answer
returns-else-several-clause-answer g c =
    answered_alone _ _ (text_in c.run_settings.result.summary) _ c.in-Ok.settings c.run_settings.result.status c.in-Ok.ensures.answer c.in-Ok.ensures.range
    (omega (arith, c.if-several.false)) c.run_settings.ensures.run

pub returns-else-several-clause-one : goal.returns-else-several-clause-one
returns-else-several-clause-one g c =
    of_one _ _ c.in-Ok.settings c.run_settings.result.status c.in-Ok.ensures.answer c.in-Ok.ensures.range
    (omega (arith, c.if-several.false))

pub returns-in-Err-Usage-clause-one : goal.returns-in-Err-Usage-clause-one
returns-in-Err-Usage-clause-one g c =
    let refused : AreRefused (map string_bytes c.args.arguments.now) = search rules in
    of_refused _ _ _ refused
