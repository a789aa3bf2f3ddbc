use Rattle.std.proofs.Common.{◌≡◌, true, All, take}
use Rattle.sig_patterns.specs.Pinning.{pins}
use Rattle.test_calls.proofs.flushing.each_pins.Given as goal

abbrev pub invariant-loop-clause : goal.invariant-loop-clause
invariant-loop-clause l = All (λ c. pins c.pattern l.var ≡ true) (take l.clause-index l.clauses)
