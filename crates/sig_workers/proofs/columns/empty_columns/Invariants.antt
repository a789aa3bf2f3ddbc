use Rattle.std.proofs.Common.{◌≡◌, [], replicate}
use Rattle.sig_workers.proofs.columns.empty_columns.Given as goal

abbrev pub invariant-loop-at : goal.invariant-loop-at
invariant-loop-at l = l.columns.items ≡ replicate l._at []
