use Rattle.std.proofs.Common.{◌≡◌}
use Rattle.std.specs.List.{flat_map, range_with_len}
use Rattle.sig_canon.specs.Generated.{call}
use Rattle.sig_canon.proofs.generating.make_calls.Given as goal

-- the calls so far
abbrev pub invariant-loop-k : goal.invariant-loop-k
invariant-loop-k l = l.instrs ≡ flat_map call (range_with_len 1 l.k)
