use Rattle.std.proofs.Common.{◌≡◌, ◌+◌, ◌-◌, ◌≤◌, drop, length}
use Rattle.sig_tokens.specs.Lines.{lines_of}
use Rattle.sig_reader.specs.Fitting.{IsFit}
use Rattle.sig_reader.specs.Grammar.{body, walk}
use Rattle.sig_reader.proofs.reader.walk_lines.Given as goal

-- the lines from here on, behind what was read, say what all lines say
abbrev pub invariant-loop-at : goal.invariant-loop-at
invariant-loop-at l = record {
  within : l.at ≤ length l.bytes + 1;
  number : l.n ≤ l.at + 2;
  fit : IsFit l.n l.draft;
  whole : body l.known l.n l.draft (lines_of (drop l.at l.bytes)) ≡ walk l.fn.draft.version l.known (lines_of l.bytes);
}

abbrev pub decreases-loop-at : goal.decreases-loop-at
decreases-loop-at l = length l.bytes + 1 - l.at
