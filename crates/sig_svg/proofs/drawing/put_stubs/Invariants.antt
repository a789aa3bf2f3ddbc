use Rattle.std.proofs.Common.{◌≡◌, ◌++◌, drop}
use Rattle.std.specs.List.{flat_map}
use Rattle.sig_svg.specs.Svg.{stub_text}
use Rattle.sig_svg.proofs.drawing.put_stubs.Given as goal

-- with those that are left, it is the whole
abbrev pub invariant-loop-stub : goal.invariant-loop-stub
invariant-loop-stub l = l.into.items ++ flat_map stub_text (drop l.stub-index l.stubs) ≡ l.fn.into.items ++ flat_map stub_text l.stubs
