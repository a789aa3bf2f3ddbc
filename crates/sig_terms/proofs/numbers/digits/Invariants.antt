use Rattle.std.proofs.Common.{◌≡◌, ◌≤◌, drop}
use Rattle.sig_terms.specs.Tokens.{digits_on}
use Rattle.sig_terms.proofs.numbers.digits.Given as goal

-- what is left goes on from the number so far
abbrev pub invariant-loop-i : goal.invariant-loop-i
invariant-loop-i l = (l.number ≤ l.most) × (digits_on l.most l.number (drop l.i l.bytes) ≡ digits_on l.most l.first l.bytes)
