use Rattle.std.proofs.Common.{arith}
use Rattle.sig_reader.proofs.BoundLemmas.{fit_blank}
use Rattle.sig_tokens.proofs.LineLemmas.{line-within}
use Rattle.sig_reader.proofs.guess.note_lines.Goals as goal

pub loop-at-preserved : goal.loop-at-preserved
loop-at-preserved c = record {
  within = line-within c.loop-at.at c.first_line-line.result.now c.args.bytes.now c.loop-at-test.true c.first_line-line.ensures.bound;
  number = omega (arith, c.loop-at.invariant.number);
  fit = c.in-Ok.ensures;
}

pub loop-at-init : goal.loop-at-init
loop-at-init c = record {
  within = omega arith;
  number = omega arith;
  fit = rw c.requires.first (fit_blank 2 c.args.draft.now.version);
}
