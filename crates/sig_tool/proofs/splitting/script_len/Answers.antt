use Rattle.std.proofs.Common.{sym, ◌∙◌, arith}
use Rattle.sig_tokens.proofs.LineLemmas.{line-within}
use Rattle.sig_tool.proofs.SplitLemmas.{found, from_start, line_on, no_record, none_left, record_so, script_so, whole_script}
use Rattle.sig_tool.proofs.splitting.script_len.Goals as goal

pub loop-at-init : goal.loop-at-init
loop-at-init c = record { within = omega arith; counted = from_start c.args.bytes.now }

pub returns-then-equal_bytes-clause-script : goal.returns-then-equal_bytes-clause-script
returns-then-equal_bytes-clause-script c =
    script_so c.args.bytes.now c.loop-at.at
    (found c.loop-at.at c.args.bytes.now c.first_line-line.result.now c.loop-at-test.true c.first_line-line.ensures.line c.loop-at.invariant.counted
    (sym c.equal_bytes.ensures ∙ c.if-equal_bytes.true))

pub returns-then-equal_bytes-clause-rest : goal.returns-then-equal_bytes-clause-rest
returns-then-equal_bytes-clause-rest c =
    record_so c.args.bytes.now c.loop-at.at
    (found c.loop-at.at c.args.bytes.now c.first_line-line.result.now c.loop-at-test.true c.first_line-line.ensures.line c.loop-at.invariant.counted
    (sym c.equal_bytes.ensures ∙ c.if-equal_bytes.true))

pub loop-at-preserved : goal.loop-at-preserved
loop-at-preserved c = record {
  within = line-within c.loop-at.at c.first_line-line.result.now c.args.bytes.now c.loop-at-test.true c.first_line-line.ensures.bound;
  counted = line_on c.loop-at.at c.args.bytes.now c.first_line-line.result.now c.loop-at-test.true c.first_line-line.ensures.line c.loop-at.invariant.counted
      (sym c.equal_bytes.ensures ∙ c.if-equal_bytes.false);
}

pub returns-clause-script : goal.returns-clause-script
returns-clause-script c = whole_script c.args.bytes.now (none_left c.loop-at.at c.args.bytes.now c.loop-at-test.false c.loop-at.invariant.counted)

pub returns-clause-rest : goal.returns-clause-rest
returns-clause-rest c = no_record c.args.bytes.now (none_left c.loop-at.at c.args.bytes.now c.loop-at-test.false c.loop-at.invariant.counted)
