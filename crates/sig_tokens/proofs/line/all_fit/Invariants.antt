use Rattle.std.proofs.Common.{◌≡◌, length}
use Rattle.std.specs.List.{list_all}
use Rattle.sig_tokens.specs.Tokens.{AreTokens, text, is_token_in_range}
use Rattle.sig_tokens.proofs.line.all_fit.Given as goal

-- the tokens so far fit
abbrev pub invariant-loop-token : goal.invariant-loop-token
invariant-loop-token l = record {
  known : AreTokens l.line l.rest;
  fit : list_all (λ t. is_token_in_range (text l.line t) t.kind) l.rest ≡ list_all (λ t. is_token_in_range (text l.line t) t.kind) l.tokens;
}

abbrev pub decreases-loop-token : goal.decreases-loop-token
decreases-loop-token l = length l.rest
