use Rattle.std.proofs.Common.{◌≡◌, take}
use Rattle.sig_lists.proofs.copying.copy_all.Given as goal

-- the copies so far equal the items so far
abbrev pub invariant-loop-item : goal.invariant-loop-item
invariant-loop-item g l = l.copies ≡ take l.item-index l.items
