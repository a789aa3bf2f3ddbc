use Rattle.std.proofs.Common.{arith}
use Rattle.sig_tokens.proofs.LineLemmas.{line-within}
use Rattle.sig_call.proofs.ExpansionLemmas.{err_gives, step_expanded, step_stopped, lines_end, count_step}
use Rattle.sig_call.proofs.expanding.expand_lines.Goals as goal

pub loop-at-preserved : goal.loop-at-preserved
loop-at-preserved c =
    let line = c.first_line-line.result.now in
    let bytes = c.args.bytes.now in
    record {
      within = line-within c.loop-at.at line bytes c.loop-at-test.true c.first_line-line.ensures.bound;
      number = omega (arith, c.loop-at.invariant.number);
      calls = omega (arith, c.loop-at.invariant.calls, c.in_ok-k.ensures.next);
      count = omega (arith, c.loop-at.invariant.count, count_step c.loop-at.at bytes line c.loop-at-test.true c.first_line-line.ensures.line);
      whole = step_expanded c.args.version c.loop-at.n c.loop-at.k c.loop-at.at bytes line c.loop-at.into c.expand_line.new.into _ _
          c.loop-at-test.true c.first_line-line.ensures.line c.in_ok-k.ensures.expanded c.loop-at.invariant.whole;
    }

pub returns-in_err-k-clause-lines : goal.returns-in_err-k-clause-lines
returns-in_err-k-clause-lines c =
    err_gives _ c.from_residual.result c.in_err-k.field-0.0 _ c.from_residual.ensures.1
    (step_stopped c.args.version c.loop-at.n c.loop-at.k c.loop-at.at c.args.bytes.now c.first_line-line.result.now c.loop-at.into c.in_err-k.field-0.0 _
    c.loop-at-test.true c.first_line-line.ensures.line c.in_err-k.ensures.expanded c.loop-at.invariant.whole)

pub returns-clause-lines : goal.returns-clause-lines
returns-clause-lines c =
    lines_end c.args.version c.loop-at.n c.loop-at.k c.loop-at.at c.args.bytes.now c.loop-at.into _ c.loop-at-test.false c.loop-at.invariant.whole
