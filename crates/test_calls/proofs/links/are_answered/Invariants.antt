use Rattle.std.proofs.Common.{◌+◌, ◌≤◌}
use Rattle.test_calls.proofs.links.are_answered.Given as goal

abbrev pub invariant-loop-index : goal.invariant-loop-index
invariant-loop-index l = l.links.links.next_id ≤ l.fn.links.links.next_id + l.index
