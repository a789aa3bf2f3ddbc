use Rattle.std.proofs.Common.{arith, take, codes, refl, ap, ◌∙◌, ◌++◌, List}
use Rattle.std.specs.List.{flat_map}
use Rattle.std.proofs.lemmas.Bool.Decides.{nat_tests}
use Rattle.sig_patterns.specs.declared.guard.Test.{Test}
use Rattle.sig_canon.specs.Printing.{tests_behind}
use Rattle.sig_canon.proofs.PrintLemmas.{refused, kept_front, each_put, all_put}
use Rattle.sig_canon.proofs.guard_text.put_more_alternatives.Goals as goal

pub returns-in_err-put_tests : goal.returns-in_err-put_tests
returns-in_err-put_tests c =
    refused c.args.into.now.items c.put_tests.new.into.items _ c.from_residual.result c.from_residual.ensures.0
    (kept_front c.args.into.now.items c.loop-tests.into.items c.put_tests.new.into.items (flat_map (tests_behind (codes "or")) (take c.loop-tests.tests-index c.args.alternatives.now)) c.loop-tests.invariant c.in_err-put_tests.ensures.1)

pub loop-tests-preserved : goal.loop-tests-preserved
loop-tests-preserved c =
    each_put (tests_behind (codes "or")) c.args.alternatives.now c.loop-tests.tests-index c.tests-item.result c.args.into.now.items c.loop-tests.into.items c.put_tests.new.into.items
    (grind (arith, nat_tests, c.loop-tests-test.true)) c.tests-item.is c.loop-tests.invariant
    (c.in_ok-put_tests.ensures.0 ∙ ap (λ (ts : List Test). c.loop-tests.into.items ++ tests_behind (codes "or") ts) c.as_slice.ensures)

pub returns : goal.returns
returns c = (
  all_put (tests_behind (codes "or")) c.args.alternatives.now c.loop-tests.tests-index c.args.into.now.items c.loop-tests.into.items _
      (grind (arith, nat_tests, c.loop-tests-test.false)) c.loop-tests.invariant refl,
  tt,
)
