use Rattle.std.proofs.Common.{◌≡◌, ◌-◌, drop, map, length}
use Rattle.sig_patterns.specs.Fitting.{first_each, first_in}
use Rattle.sig_patterns.proofs.places.+first.Given as goal

abbrev pub invariant-first_in_each-loop-i : goal.invariant-first_in_each-loop-i
invariant-first_in_each-loop-i l =
    first_each (map first_in l.patterns) l.terms l.var.0 ≡ first_each (map first_in (drop l.i l.patterns)) (drop l.i l.terms) l.var.0

abbrev pub decreases-first_in_each-loop-i : goal.decreases-first_in_each-loop-i
decreases-first_in_each-loop-i l = length l.patterns - l.i
