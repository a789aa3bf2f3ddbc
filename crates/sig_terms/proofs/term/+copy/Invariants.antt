use Rattle.std.proofs.Common.{◌≡◌, take}
use Rattle.sig_terms.proofs.term.+copy.Given as goal

abbrev pub invariant-copy_terms-loop-item : goal.invariant-copy_terms-loop-item
invariant-copy_terms-loop-item l = l.copies ≡ take l.item-index l.items
