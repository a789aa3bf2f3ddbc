use Rattle.std.proofs.Common.{arith}
use Rattle.sig_terms.proofs.Totals.{depth_next}
use Rattle.sig_terms.proofs.+depth.Goals as goal

pub nodes::greatest_depth-loop-item-preserved : goal.nodes::greatest_depth-loop-item-preserved
nodes::greatest_depth-loop-item-preserved t c = (
  omega arith,
  depth_next c.args.items.now c.loop-item.item-index c.item-item.result c.loop-item.deepest c.depth.result c.max-deepest.result _ c.loop-item-test.true c.item-item.is c.depth.ensures c.max-deepest.ensures c.loop-item.invariant.1,
)
