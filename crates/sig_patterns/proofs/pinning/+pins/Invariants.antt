use Rattle.std.proofs.Common.{◌≡◌, map, drop}
use Rattle.std.specs.List.{list_any}
use Rattle.sig_patterns.specs.Pinning.{pins}
use Rattle.sig_patterns.proofs.pinning.+pins.Given as goal

-- none of the patterns so far pins it
abbrev pub invariant-any_pins-loop-item : goal.invariant-any_pins-loop-item
invariant-any_pins-loop-item l =
    list_any (λ b. b) (map (λ p. pins p l.var) (drop l.item-index l.items)) ≡ list_any (λ b. b) (map (λ p. pins p l.var) l.items)
