use Rattle.std.proofs.Common.{◌≡◌, ◌++◌, take, codes}
use Rattle.std.specs.List.{flat_map}
use Rattle.sig_canon.specs.Printing.{test_behind}
use Rattle.sig_canon.proofs.guard_text.put_more_tests.Given as goal

-- the tests so far
abbrev pub invariant-loop-test : goal.invariant-loop-test
invariant-loop-test l = l.into.items ≡ l.fn.into.items ++ flat_map (test_behind (codes "and")) (take l.test-index l.tests)
