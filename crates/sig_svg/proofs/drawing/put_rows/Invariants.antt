use Rattle.std.proofs.Common.{◌≡◌, ◌++◌, drop}
use Rattle.std.specs.List.{flat_map}
use Rattle.sig_svg.specs.Svg.{row_text}
use Rattle.sig_svg.proofs.drawing.put_rows.Given as goal

-- with those that are left, it is the whole
abbrev pub invariant-loop-mark : goal.invariant-loop-mark
invariant-loop-mark l = l.into.items ++ flat_map row_text (drop l.mark-index l.marks) ≡ l.fn.into.items ++ flat_map row_text l.marks
