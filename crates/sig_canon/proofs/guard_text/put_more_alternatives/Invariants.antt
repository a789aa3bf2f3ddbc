use Rattle.std.proofs.Common.{◌≡◌, ◌++◌, take, codes}
use Rattle.std.specs.List.{flat_map}
use Rattle.sig_canon.specs.Printing.{tests_behind}
use Rattle.sig_canon.proofs.guard_text.put_more_alternatives.Given as goal

-- the alternatives so far
abbrev pub invariant-loop-tests : goal.invariant-loop-tests
invariant-loop-tests l = l.into.items ≡ l.fn.into.items ++ flat_map (tests_behind (codes "or")) (take l.tests-index l.alternatives)
