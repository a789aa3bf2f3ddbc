use Rattle.std.proofs.Common.{◌∙◌, ◌||◌, ap}
use Rattle.std.specs.Prelude.{◌==◌}
use Rattle.sig_layout.specs.Sets.{has}
use Rattle.sig_layout.proofs.Members.{no_one}
use Rattle.sig_workers.proofs.OpenLemmas.{all_but}
use Rattle.sig_workers.proofs.opening.senders_but.Goals as goal

pub returns : goal.returns
returns c s = ap (λ z. has z s) c.minus.ensures
    ∙ all_but c.args.senders c.with-one.result c.args.but s (c.with-one.ensures s ∙ ap (λ z. z || (s == c.args.but)) (ap (λ z. has z s) c.none.ensures ∙ no_one s))
