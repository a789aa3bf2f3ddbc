use Rattle.std.proofs.Common.{ap, length, arith}
use Rattle.sig_tokens.proofs.SkipLemmas.{past_end}
use Rattle.sig_tokens.proofs.skipping.expression_end.Goals as goal

pub returns-then-first-all-clause-end : goal.returns-then-first-all-clause-end
returns-then-first-all-clause-end c =
    past_end c.args.line.now c.args.tokens.now c.args.first (omega (arith, c.if-first-all.true, ap length c.as_slice-all.ensures))
