use Rattle.std.proofs.Common.{ℕ, ◌≡◌, All, List, length}
use Rattle.test_calls.proofs.search.rows.are_numbered.Given as goal

abbrev pub invariant-loop-at : goal.invariant-loop-at
invariant-loop-at l = All (λ (r : List ℕ). length r ≡ l.row.width) l.rows
