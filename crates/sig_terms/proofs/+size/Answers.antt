use Rattle.std.proofs.Common.{arith}
use Rattle.sig_terms.proofs.Totals.{nodes_next}
use Rattle.sig_terms.proofs.+size.Goals as goal

pub nodes::size_all-loop-item-preserved : goal.nodes::size_all-loop-item-preserved
nodes::size_all-loop-item-preserved t c = (
  omega arith,
  nodes_next c.args.items.now c.loop-item.item-index c.item-item.result c.loop-item.nodes c.size.result c.saturating_add-nodes.result _ c.loop-item-test.true c.item-item.is c.size.ensures c.saturating_add-nodes.ensures c.loop-item.invariant.1,
)
