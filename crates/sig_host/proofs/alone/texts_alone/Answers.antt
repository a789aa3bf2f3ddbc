use Rattle.sig_host.proofs.RecordLemmas.{texts_kept}
use Rattle.sig_host.proofs.alone.texts_alone.Goals as goal

pub returns : goal.returns
returns c =
    texts_kept 1 c.args.script c.args.asked c.in_ok-given.given c.texts_of-texts.result c.in_ok-given.ensures.run
    (λ one. c.in_ok-given.ensures.alone) c.in_ok-given.ensures.sized c.texts_of-texts.ensures.readable c.texts_of-texts.ensures.record
    c.texts_of-texts.ensures.summary
