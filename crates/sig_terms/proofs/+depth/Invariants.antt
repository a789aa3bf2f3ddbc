use Rattle.std.proofs.Common.{◌≡◌, ◌≤◌, ◌-◌, ◌^◌, min, max, map, drop}
use Rattle.sig_terms.specs.Nodes.{depth_of, greatest}
use Rattle.sig_terms.proofs.+depth.Given as goal

-- with what is left, it is the greatest of all
abbrev pub invariant-nodes::greatest_depth-loop-item : goal.invariant-nodes::greatest_depth-loop-item
invariant-nodes::greatest_depth-loop-item l =
    (l.deepest ≤ 2 ^ 64 - 1)
    × (min (max l.deepest (greatest (map depth_of (drop l.item-index l.items)))) (2 ^ 64 - 1) ≡ min (greatest (map depth_of l.items)) (2 ^ 64 - 1))
