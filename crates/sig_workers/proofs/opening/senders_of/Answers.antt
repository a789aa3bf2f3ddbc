use Rattle.std.proofs.Common.{◌∙◌, sym, ap}
use Rattle.sig_layout.specs.Sets.{has}
use Rattle.sig_workers.proofs.OpenLemmas.{in_none, more_in}
use Rattle.sig_layout.proofs.Members.{no_one}
use Rattle.sig_workers.proofs.opening.senders_of.Goals as goal

pub loop-at-init : goal.loop-at-init
loop-at-init c s = ap (λ z. has z s) c.none-senders.ensures ∙ no_one s ∙ sym (in_none c.args.first s)

pub loop-at-preserved : goal.loop-at-preserved
loop-at-preserved c s = more_in c.args.first c.loop-at.at s (has c.loop-at.senders s) (has c.with-senders.result s) (c.loop-at.invariant s) (c.with-senders.ensures s)
