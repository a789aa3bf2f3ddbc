use Rattle.std.proofs.Common.{sym, arith}
use Rattle.sig_tokens.proofs.NumberLemmas.{number_over, number_step, number_ends}
use Rattle.sig_tokens.proofs.number.number_up_to.Goals as goal

pub returns-then-n-most : goal.returns-then-n-most
returns-then-n-most c =
    sym (number_over c.args.most c.loop-digit.n c.args.digits.now c.loop-digit.digit-index _ c.loop-digit-test.true c.loop-digit.invariant.whole (omega (arith, c.saturating_sub.ensures)))

pub loop-digit-preserved : goal.loop-digit-preserved
loop-digit-preserved c = record {
  within = c.if-n-most.false;
  whole = rw c.saturating_sub.ensures (number_step c.loop-digit.n c.args.digits.now c.loop-digit.digit-index _ c.loop-digit-test.true c.loop-digit.invariant.whole);
}

pub returns : goal.returns
returns c = sym (number_ends c.args.most c.loop-digit.n c.args.digits.now c.loop-digit.digit-index _ c.loop-digit-test.false c.loop-digit.invariant.whole c.loop-digit.invariant.within)
