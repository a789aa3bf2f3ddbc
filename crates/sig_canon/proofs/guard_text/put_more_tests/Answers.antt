use Rattle.std.proofs.Common.{arith, take, codes, refl}
use Rattle.std.specs.List.{flat_map}
use Rattle.std.proofs.lemmas.Bool.Decides.{nat_tests}
use Rattle.sig_canon.specs.Printing.{test_behind}
use Rattle.sig_canon.proofs.PrintLemmas.{refused, kept_front, each_put, all_put}
use Rattle.sig_canon.proofs.guard_text.put_more_tests.Goals as goal

pub returns-in_err-put_joined : goal.returns-in_err-put_joined
returns-in_err-put_joined c =
    refused c.args.into.now.items c.put_joined.new.into.items _ c.from_residual.result c.from_residual.ensures.0
    (kept_front c.args.into.now.items c.loop-test.into.items c.put_joined.new.into.items (flat_map (test_behind (codes "and")) (take c.loop-test.test-index c.args.tests.now)) c.loop-test.invariant c.in_err-put_joined.ensures.1)

pub loop-test-preserved : goal.loop-test-preserved
loop-test-preserved c =
    each_put (test_behind (codes "and")) c.args.tests.now c.loop-test.test-index c.test-item.result c.args.into.now.items c.loop-test.into.items c.put_joined.new.into.items
    (grind (arith, nat_tests, c.loop-test-test.true)) c.test-item.is c.loop-test.invariant c.in_ok-put_joined.ensures.0

pub returns : goal.returns
returns c = (
  all_put (test_behind (codes "and")) c.args.tests.now c.loop-test.test-index c.args.into.now.items c.loop-test.into.items _
      (grind (arith, nat_tests, c.loop-test-test.false)) c.loop-test.invariant refl,
  tt,
)
