use Rattle.std.proofs.Common.{All, take}
use Rattle.sig_patterns.specs.Pids.{IsExprAmong}
use Rattle.sig_patterns.proofs.+names_only.Given as goal

-- the expressions so far name known processes alone
abbrev pub invariant-naming::all_name_only-loop-item : goal.invariant-naming::all_name_only-loop-item
invariant-naming::all_name_only-loop-item l = All (IsExprAmong l.known) (take l.item-index l.items)
