use Rattle.std.proofs.Common.{◌≡◌, ◌-◌, drop, map, length}
use Rattle.sig_patterns.specs.Fitting.{term_seen, first_in, fits, fits_each}
use Rattle.sig_patterns.proofs.matching.+fits.Given as goal

-- the patterns before i fit
abbrev pub invariant-each_fits-loop-i : goal.invariant-each_fits-loop-i
invariant-each_fits-loop-i l =
    let fit = fits l.whole.env.now (first_in l.whole.pattern.now (term_seen l.whole.seen)) in
    (length l.patterns ≡ length l.terms) × (fits_each (map fit l.patterns) l.terms ≡ fits_each (map fit (drop l.i l.patterns)) (drop l.i l.terms))

abbrev pub decreases-each_fits-loop-i : goal.decreases-each_fits-loop-i
decreases-each_fits-loop-i l = length l.patterns - l.i
