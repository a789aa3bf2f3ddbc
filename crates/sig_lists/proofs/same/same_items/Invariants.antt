use Rattle.std.proofs.Common.{◌≡◌, take, length}
use Rattle.sig_lists.proofs.same.same_items.Given as goal

abbrev pub invariant-loop-at : goal.invariant-loop-at
invariant-loop-at g l = record {
  many : length l.items ≡ length l.others;
  same : take l.at l.items ≡ take l.at l.others;
}
