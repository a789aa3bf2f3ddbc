use Rattle.std.proofs.Common.{◌≡◌, length}
use Rattle.sig_tokens.specs.PatternTexts.{nested}
use Rattle.sig_tokens.proofs.patterns.nest.Given as goal

-- the heads that are left, before the pattern so far
abbrev pub invariant-loop-head : goal.invariant-loop-head
invariant-loop-head l = nested l.heads l.pattern ≡ nested l.fn.heads l.fn.tail

abbrev pub decreases-loop-head : goal.decreases-loop-head
decreases-loop-head l = length l.heads
