use Rattle.std.proofs.Common.{◌≡◌, length}
use Rattle.sig_tokens.specs.Tokens.{AreTokens}
use Rattle.sig_call.specs.CallLine.{has_reserved}
use Rattle.sig_call.proofs.call_line.has_reserved.Given as goal

-- none so far
abbrev pub invariant-loop-token : goal.invariant-loop-token
invariant-loop-token l = record {
  known : AreTokens l.line l.rest;
  none : has_reserved l.line l.rest ≡ has_reserved l.line l.tokens;
}

abbrev pub decreases-loop-token : goal.decreases-loop-token
decreases-loop-token l = length l.rest
