use Rattle.std.proofs.Common.{◌≡◌, ◌-◌, ◌≤◌, drop, length}
use Rattle.sig_tokens.specs.Tokens.{AreTokens, cut_of}
use Rattle.sig_tokens.proofs.CutLemmas.{joined}
use Rattle.sig_tokens.proofs.line.cut_into.Given as goal

-- the tokens so far, and those of what is left, are those of the line
abbrev pub invariant-loop-at : goal.invariant-loop-at
invariant-loop-at l = record {
  within : l.at ≤ length l.line;
  tokens : joined l.tokens (cut_of l.version l.at 0 (drop l.at l.line)) ≡ cut_of l.version 0 0 l.line;
  known : AreTokens l.line l.tokens;
}

abbrev pub decreases-loop-at : goal.decreases-loop-at
decreases-loop-at l = length l.line - l.at
