use Rattle.std.proofs.Common.{[]}
use Rattle.sig_terms.proofs.Adding.{one_more}
use Rattle.sig_patterns.proofs.expression.+copy.Goals as goal

pub copy_all-loop-item-preserved : goal.copy_all-loop-item-preserved
copy_all-loop-item-preserved t c =
    one_more [] c.loop-item.copies c.add.new.self c.args.items.now c.loop-item.item-index c.item-item.result c.in_ok-copy.copy c.loop-item-test.true c.item-item.is c.in_ok-copy.ensures c.loop-item.invariant c.in_ok-add.ensures
