use Rattle.std.proofs.Common.{◌≡◌, ℕ, ◌<◌, length, get_or, max}
use Rattle.sig_order.proofs.counts.new_row.Given as goal
use Rattle.sig_order.specs.Counting.{last_of, count_at}

abbrev pub invariant-loop-q : goal.invariant-loop-q
invariant-loop-q l = record {
  many : length l.counts.items ≡ l.q;
  each : (k : ℕ) → k < l.q → get_or l.counts.items k 0 ≡ max (count_at l.fn.rows (last_of l.fn.at) k) (count_at l.fn.rows l.fn.sender k);
}
