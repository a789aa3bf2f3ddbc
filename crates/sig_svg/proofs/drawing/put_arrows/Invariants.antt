use Rattle.std.proofs.Common.{◌≡◌, ◌++◌, drop}
use Rattle.std.specs.List.{flat_map}
use Rattle.sig_svg.specs.Svg.{arrow_text}
use Rattle.sig_svg.proofs.drawing.put_arrows.Given as goal

-- with those that are left, it is the whole
abbrev pub invariant-loop-arrow : goal.invariant-loop-arrow
invariant-loop-arrow l = l.into.items ++ flat_map arrow_text (drop l.arrow-index l.arrows) ≡ l.fn.into.items ++ flat_map arrow_text l.arrows
