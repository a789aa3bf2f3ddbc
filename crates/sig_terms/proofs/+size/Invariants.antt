use Rattle.std.proofs.Common.{◌≡◌, ◌≤◌, ◌+◌, ◌-◌, ◌^◌, min, map, sum, drop}
use Rattle.sig_terms.specs.Nodes.{node_count}
use Rattle.sig_terms.proofs.+size.Given as goal

-- with what is left, it is the count of all
abbrev pub invariant-nodes::size_all-loop-item : goal.invariant-nodes::size_all-loop-item
invariant-nodes::size_all-loop-item l =
    (l.nodes ≤ 2 ^ 64 - 1)
    × (min (l.nodes + sum (map node_count (drop l.item-index l.items))) (2 ^ 64 - 1) ≡ min (sum (map node_count l.items)) (2 ^ 64 - 1))
