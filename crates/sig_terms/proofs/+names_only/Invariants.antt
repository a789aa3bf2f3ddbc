use Rattle.std.proofs.Common.{All, take}
use Rattle.sig_terms.specs.Names.{AllNames, IsAmong}
use Rattle.sig_terms.proofs.+names_only.Given as goal

-- the terms so far name known processes alone
abbrev pub invariant-naming::all_name_only-loop-item : goal.invariant-naming::all_name_only-loop-item
invariant-naming::all_name_only-loop-item l = All (AllNames (IsAmong l.known)) (take l.item-index l.items)
