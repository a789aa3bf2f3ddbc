use Rattle.sig_view.specs.OutcomeText.{endings_text}
use Rattle.sig_view.proofs.OutcomeLemmas.{ends_more}
use Rattle.sig_view.proofs.outcome_text.endings_text.Goals as goal

pub loop-at-preserved : goal.loop-at-preserved
loop-at-preserved c =
    ends_more c.args.endings.now c.loop-at.at c.index-endings-at.result (endings_text c.args.endings.now c.args.all) c.loop-at.text.items c.put_outcome.new.text.items c.loop-at-test.true c.index-endings-at.is c.loop-at.invariant c.in_ok-put_outcome.ensures
