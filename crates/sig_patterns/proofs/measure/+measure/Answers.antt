use Rattle.std.proofs.Common.{ap, ◌∙◌, sym, arith}
use Rattle.sig_terms.specs.Nodes.{node_count, depth_of}
use Rattle.sig_patterns.specs.declared.expression.Expr.TheVariants as expr
use Rattle.sig_patterns.specs.Building.{value_of}
use Rattle.sig_patterns.proofs.Extents.{int_extent, atom_extent, pid_extent, tuple_extent, list_extent, one_kept, one_more_kept, nodes_next, depth_next}
use Rattle.sig_patterns.proofs.measure.+measure.Goals as goal

pub measure-returns-in-Tuple-clause-nodes : goal.measure-returns-in-Tuple-clause-nodes
measure-returns-in-Tuple-clause-nodes t c = one_more_kept _ _ _ _ c.around.ensures.nodes c.measure_all.ensures.nodes
    (ap (λ e. node_count (value_of c.args.env.now e)) (c.in-Tuple.is ∙ ap expr.Tuple (sym c.as_slice.ensures)) ∙ (tuple_extent c.args.env.now c.as_slice.result.now).0)

pub measure-returns-in-Tuple-clause-depth : goal.measure-returns-in-Tuple-clause-depth
measure-returns-in-Tuple-clause-depth t c = one_more_kept _ _ _ _ c.around.ensures.depth c.measure_all.ensures.depth
    (ap (λ e. depth_of (value_of c.args.env.now e)) (c.in-Tuple.is ∙ ap expr.Tuple (sym c.as_slice.ensures)) ∙ (tuple_extent c.args.env.now c.as_slice.result.now).1)

pub measure-returns-in-List-clause-nodes : goal.measure-returns-in-List-clause-nodes
measure-returns-in-List-clause-nodes t c = one_more_kept _ _ _ _ c.around-in-List.ensures.nodes c.measure_all-in-List.ensures.nodes
    (ap (λ e. node_count (value_of c.args.env.now e)) (c.in-List.is ∙ ap expr.List (sym c.as_slice-in-List.ensures)) ∙ (list_extent c.args.env.now c.as_slice-in-List.result.now).0)

pub measure-returns-in-List-clause-depth : goal.measure-returns-in-List-clause-depth
measure-returns-in-List-clause-depth t c = one_more_kept _ _ _ _ c.around-in-List.ensures.depth c.measure_all-in-List.ensures.depth
    (ap (λ e. depth_of (value_of c.args.env.now e)) (c.in-List.is ∙ ap expr.List (sym c.as_slice-in-List.ensures)) ∙ (list_extent c.args.env.now c.as_slice-in-List.result.now).1)

pub measure-returns-in-Int-clause-nodes : goal.measure-returns-in-Int-clause-nodes
measure-returns-in-Int-clause-nodes t c = one_kept _ (ap (λ e. node_count (value_of c.args.env.now e)) c.in-Int.is ∙ (int_extent c.args.env.now c.in-Int.field-0).0)

pub measure-returns-in-Int-clause-depth : goal.measure-returns-in-Int-clause-depth
measure-returns-in-Int-clause-depth t c = one_kept _ (ap (λ e. depth_of (value_of c.args.env.now e)) c.in-Int.is ∙ (int_extent c.args.env.now c.in-Int.field-0).1)

pub measure-returns-in-Atom-clause-nodes : goal.measure-returns-in-Atom-clause-nodes
measure-returns-in-Atom-clause-nodes t c = one_kept _ (ap (λ e. node_count (value_of c.args.env.now e)) c.in-Atom.is ∙ (atom_extent c.args.env.now c.in-Atom.field-0).0)

pub measure-returns-in-Atom-clause-depth : goal.measure-returns-in-Atom-clause-depth
measure-returns-in-Atom-clause-depth t c = one_kept _ (ap (λ e. depth_of (value_of c.args.env.now e)) c.in-Atom.is ∙ (atom_extent c.args.env.now c.in-Atom.field-0).1)

pub measure-returns-in-Pid-clause-nodes : goal.measure-returns-in-Pid-clause-nodes
measure-returns-in-Pid-clause-nodes t c = one_kept _ (ap (λ e. node_count (value_of c.args.env.now e)) c.in-Pid.is ∙ (pid_extent c.args.env.now c.in-Pid.field-0).0)

pub measure-returns-in-Pid-clause-depth : goal.measure-returns-in-Pid-clause-depth
measure-returns-in-Pid-clause-depth t c = one_kept _ (ap (λ e. depth_of (value_of c.args.env.now e)) c.in-Pid.is ∙ (pid_extent c.args.env.now c.in-Pid.field-0).1)

pub measure_all-loop-item-preserved : goal.measure_all-loop-item-preserved
measure_all-loop-item-preserved t c = record {
  few = omega arith;
  shallow = omega arith;
  nodes =
      nodes_next c.args.env.now c.args.items.now c.loop-item.item-index c.item-item.result c.loop-item.nodes c.measure-one.result.nodes c.saturating_add-nodes.result _ c.loop-item-test.true c.item-item.is c.measure-one.ensures.nodes c.saturating_add-nodes.ensures
      c.loop-item.invariant.nodes;
  depth =
      depth_next c.args.env.now c.args.items.now c.loop-item.item-index c.item-item.result c.loop-item.depth c.measure-one.result.depth c.max-depth.result _ c.loop-item-test.true c.item-item.is c.measure-one.ensures.depth c.max-depth.ensures
      c.loop-item.invariant.depth;
}
