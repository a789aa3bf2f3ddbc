use Rattle.std.proofs.Common.{◌-◌, ◌≤◌, length}
use Rattle.sig_host.proofs.printing.middle.Given as goal

abbrev pub invariant-loop-low : goal.invariant-loop-low
invariant-loop-low l = record {
  ahead : l.low ≤ l.high;
  within : l.high ≤ length l.reports;
}

abbrev pub decreases-loop-low : goal.decreases-loop-low
decreases-loop-low l = l.high - l.low
