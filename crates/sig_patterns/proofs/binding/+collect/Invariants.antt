use Rattle.std.proofs.Common.{◌≡◌, ◌-◌, ◌++◌, drop, map, length}
use Rattle.sig_patterns.specs.Fitting.{placed_each, placed, bindings_of}
use Rattle.sig_patterns.proofs.binding.+collect.Given as goal

-- with what the patterns from i on place, it is what all place
abbrev pub invariant-collect_each-loop-i : goal.invariant-collect_each-loop-i
invariant-collect_each-loop-i l =
    bindings_of l.into.items ++ placed_each (map placed (drop l.i l.patterns)) (drop l.i l.terms)
    ≡ bindings_of l.fn.into.items ++ placed_each (map placed l.patterns) l.terms

abbrev pub decreases-collect_each-loop-i : goal.decreases-collect_each-loop-i
decreases-collect_each-loop-i l = length l.patterns - l.i
