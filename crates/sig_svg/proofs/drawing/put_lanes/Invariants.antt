use Rattle.std.proofs.Common.{◌≡◌, ◌++◌, drop}
use Rattle.std.specs.List.{flat_map}
use Rattle.sig_svg.specs.Svg.{lane_text}
use Rattle.sig_svg.proofs.drawing.put_lanes.Given as goal

-- with those that are left, it is the whole
abbrev pub invariant-loop-lane : goal.invariant-loop-lane
invariant-loop-lane l = l.into.items ++ flat_map (lane_text l.rows) (drop l.lane-index l.lanes) ≡ l.fn.into.items ++ flat_map (lane_text l.rows) l.lanes
