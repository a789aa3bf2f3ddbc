use Rattle.std.proofs.Common.{◌+◌, ◌-◌, ◌<◌, ◌≤◌}
use Rattle.sig_order.specs.Concurrent.{numbered}
use Rattle.sig_order.specs.Counting.{counted_of, count_at}
use Rattle.sig_order.proofs.searching.last_without.Given as goal

-- the event at the lower bound doesn't count the given one, and that behind the upper bound does
abbrev pub invariant-loop-low : goal.invariant-loop-low
invariant-loop-low l = record {
  rises : l.low ≤ l.high;
  within : l.high ≤ counted_of l.fn.rows l.fn.pid;
  without : 0 < l.low → count_at l.fn.rows (numbered l.fn.pid l.low) l.fn.at.pid < l.fn.at.event;
  next : l.high < counted_of l.fn.rows l.fn.pid → l.fn.at.event ≤ count_at l.fn.rows (numbered l.fn.pid (l.high + 1)) l.fn.at.pid;
}

abbrev pub decreases-loop-low : goal.decreases-loop-low
decreases-loop-low l = l.high - l.low
