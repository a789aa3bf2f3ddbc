use Rattle.std.proofs.Common.{◌+◌, ◌-◌, ◌≤◌, length}
use Rattle.sig_reader.specs.Fitting.{IsFit}
use Rattle.sig_reader.proofs.guess.note_lines.Given as goal

abbrev pub invariant-loop-at : goal.invariant-loop-at
invariant-loop-at l = record {
  within : l.at ≤ length l.bytes + 1;
  number : l.n ≤ l.at + 2;
  fit : IsFit l.n l.draft;
}

abbrev pub decreases-loop-at : goal.decreases-loop-at
decreases-loop-at l = length l.bytes + 1 - l.at
