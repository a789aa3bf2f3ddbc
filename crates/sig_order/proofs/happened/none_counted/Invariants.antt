use Rattle.std.proofs.Common.{◌≡◌, replicate}
use Rattle.sig_order.proofs.happened.none_counted.Given as goal
use Rattle.sig_order.specs.Counting.{no_rows}

abbrev pub invariant-loop : goal.invariant-loop
invariant-loop l = l.rows.items ≡ replicate l.counter no_rows
