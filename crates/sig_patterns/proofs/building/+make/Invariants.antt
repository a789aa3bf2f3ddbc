use Rattle.std.proofs.Common.{◌≡◌, map, take}
use Rattle.sig_patterns.specs.Building.{value_of}
use Rattle.sig_patterns.proofs.building.+make.Given as goal

abbrev pub invariant-make_all-loop-item : goal.invariant-make_all-loop-item
invariant-make_all-loop-item l = l.values.items ≡ map (value_of l.env) (take l.item-index l.items)
