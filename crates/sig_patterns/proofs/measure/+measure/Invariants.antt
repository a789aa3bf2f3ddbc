use Rattle.std.proofs.Common.{◌≡◌, ◌≤◌, ◌+◌, ◌-◌, ◌^◌, min, max, map, sum, drop}
use Rattle.sig_terms.specs.Nodes.{node_count, depth_of, greatest}
use Rattle.sig_patterns.specs.Building.{value_of}
use Rattle.sig_patterns.proofs.measure.+measure.Given as goal

-- with what is left, it is the extent of all
abbrev pub invariant-measure_all-loop-item : goal.invariant-measure_all-loop-item
invariant-measure_all-loop-item l = record {
  few : l.nodes ≤ 2 ^ 64 - 1;
  shallow : l.depth ≤ 2 ^ 64 - 1;
  nodes : min (l.nodes + sum (map node_count (map (value_of l.env) (drop l.item-index l.items)))) (2 ^ 64 - 1) ≡ min (sum (map node_count (map (value_of l.env) l.items))) (2 ^ 64 - 1);
  depth : min (max l.depth (greatest (map depth_of (map (value_of l.env) (drop l.item-index l.items))))) (2 ^ 64 - 1) ≡ min (greatest (map depth_of (map (value_of l.env) l.items))) (2 ^ 64 - 1);
}
