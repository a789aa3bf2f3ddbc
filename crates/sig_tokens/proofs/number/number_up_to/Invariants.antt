use Rattle.std.proofs.Common.{◌≡◌, ◌≤◌, drop}
use Rattle.sig_tokens.specs.Numbers.{number_after, number}
use Rattle.sig_tokens.proofs.number.number_up_to.Given as goal

-- the digits so far write n
abbrev pub invariant-loop-digit : goal.invariant-loop-digit
invariant-loop-digit l = record {
  within : l.n ≤ l.most;
  whole : number_after l.n (drop l.digit-index l.digits) ≡ number l.digits;
}
