use Rattle.std.proofs.Common.{◌≡◌, ◌+◌, ◌-◌, ◌≤◌, drop, length}
use Rattle.sig_tokens.specs.Lines.{lines_of}
use Rattle.sig_call.specs.Expanding.{blank, lines_expanded}
use Rattle.sig_call.proofs.expanding.expand_lines.Given as goal

-- the lines from here on, behind those so far, give what all lines give
abbrev pub invariant-loop-at : goal.invariant-loop-at
invariant-loop-at l = record {
  within : l.at ≤ length l.bytes + 1;
  number : l.n ≤ l.at + 1;
  calls : l.k ≤ l.n;
  count : l.n + length (lines_of (drop l.at l.bytes)) ≡ length (lines_of l.bytes) + 1;
  whole : lines_expanded l.version l.n l.k l.into (lines_of (drop l.at l.bytes)) ≡ lines_expanded l.version 1 1 blank (lines_of l.bytes);
}

abbrev pub decreases-loop-at : goal.decreases-loop-at
decreases-loop-at l = length l.bytes + 1 - l.at
