use Rattle.std.proofs.Common.{◌≡◌, ℕ, ◌<◌, length, get_or, None}
use Rattle.sig_order.specs.Concurrent.{IsRange}
use Rattle.sig_view.proofs.concurrency.ranges_of.Given as goal

-- the ranges of the processes so far
abbrev pub invariant-loop-report : goal.invariant-loop-report
invariant-loop-report l = record {
  many : length l.ranges.items ≡ l.report-index;
  each : (pid : ℕ) → pid < l.report-index → IsRange l.fn.told l.fn.order.origins l.fn.event pid (get_or l.ranges.items pid None);
}
