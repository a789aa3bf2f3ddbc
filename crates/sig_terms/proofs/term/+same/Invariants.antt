use Rattle.std.proofs.Common.{◌≡◌, ◌-◌, drop, map, length}
use Rattle.sig_terms.specs.TermTest.{same_term, each_same}
use Rattle.sig_terms.proofs.term.+same.Given as goal

-- what is left decides
abbrev pub invariant-same_terms-loop-i : goal.invariant-same_terms-loop-i
invariant-same_terms-loop-i l =
    (length l.a ≡ length l.b)
    × (each_same (map same_term l.a) l.b ≡ each_same (map same_term (drop l.i l.a)) (drop l.i l.b))

abbrev pub decreases-same_terms-loop-i : goal.decreases-same_terms-loop-i
decreases-same_terms-loop-i l = length l.a - l.i
