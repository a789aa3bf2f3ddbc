use Rattle.std.proofs.Common.{arith}
use Rattle.sig_host.proofs.RecordLemmas.{texts_kept}
use Rattle.sig_host.proofs.host.texts_by_several.Goals as goal

pub returns : goal.returns
returns g c =
    texts_kept c.args.settings.workers c.args.script c.args.asked c.in_ok-given.given c.texts_of-texts.result c.in_ok-given.ensures.run
    (λ one. absurd (let bad : ⊥ = omega (arith, one, c.requires.several) in bad)) c.in_ok-given.ensures.sized c.texts_of-texts.ensures.readable
    c.texts_of-texts.ensures.record c.texts_of-texts.ensures.summary
