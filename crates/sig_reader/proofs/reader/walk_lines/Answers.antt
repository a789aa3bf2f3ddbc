use Rattle.std.proofs.Common.{◌≡◌, Err, refl, arith}
use Rattle.sig_reader.specs.Grammar.{line_taken}
use Rattle.sig_tokens.proofs.LineLemmas.{line-within}
use Rattle.sig_reader.proofs.BoundLemmas.{fit_blank, fit_taken}
use Rattle.sig_reader.proofs.ReaderLemmas.{step_taken, step_refused, lines_end}
use Rattle.sig_reader.proofs.reader.walk_lines.Goals as goal

pub returns-in-Err-Fault : goal.returns-in-Err-Fault
returns-in-Err-Fault c =
    let refused : line_taken c.args.known.now c.loop-at.draft c.first_line-line.result.now ≡ Err c.in-Err-Fault.kind = rw c.in-Err-Fault.field-0-is at c.in-Err-Fault.ensures in
    record {
      walked = rw c.in-Err-Fault.kind-is (step_refused c.args.known.now c.loop-at.n c.loop-at.at c.args.bytes.now c.first_line-line.result.now c.loop-at.draft c.in-Err-Fault.kind _
          c.loop-at-test.true c.first_line-line.ensures.line refused c.loop-at.invariant.whole);
      fit = tt;
    }

pub loop-at-preserved : goal.loop-at-preserved
loop-at-preserved c = record {
  within = line-within c.loop-at.at c.first_line-line.result.now c.args.bytes.now c.loop-at-test.true c.first_line-line.ensures.bound;
  number = omega (arith, c.loop-at.invariant.number);
  fit = fit_taken c.args.known.now c.loop-at.n c.loop-at.draft c.take_line.new.draft c.first_line-line.result.now c.loop-at.invariant.fit c.in-Ok.ensures;
  whole = step_taken c.args.known.now c.loop-at.n c.loop-at.at c.args.bytes.now c.first_line-line.result.now c.loop-at.draft c.take_line.new.draft _
      c.loop-at-test.true c.first_line-line.ensures.line c.in-Ok.ensures c.loop-at.invariant.whole;
}

pub returns : goal.returns
returns c = record {
  walked = lines_end c.args.known.now c.loop-at.n c.loop-at.at c.args.bytes.now c.loop-at.draft _ c.loop-at-test.false c.loop-at.invariant.whole;
  fit = c.loop-at.invariant.fit;
}

pub loop-at-init : goal.loop-at-init
loop-at-init c = record {
  within = omega arith;
  number = omega arith;
  fit = rw c.requires.first (fit_blank 2 c.args.draft.now.version);
  whole = rw c.requires.first refl;
}
