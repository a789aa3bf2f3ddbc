use Rattle.std.proofs.Common.{◌≡◌, map, drop}
use Rattle.std.specs.List.{list_any}
use Rattle.sig_terms.specs.Nodes.{holds}
use Rattle.sig_terms.proofs.+holds_ref.Given as goal

-- none of the terms so far holds it
abbrev pub invariant-nodes::any_holds_ref-loop-item : goal.invariant-nodes::any_holds_ref-loop-item
invariant-nodes::any_holds_ref-loop-item l =
    list_any (λ b. b) (map (holds l.reference) (drop l.item-index l.items)) ≡ list_any (λ b. b) (map (holds l.reference) l.items)
