use Rattle.std.proofs.Common.{sym, ap, is_some, ◌∙◌, arith}
use Rattle.sig_patterns.specs.declared.clause.Clause.{Clause}
use Rattle.sig_patterns.specs.Scanning.{takes}
use Rattle.sig_patterns.proofs.HitLemmas.{first_clause_next}
use Rattle.sig_patterns.proofs.scanning.first_match.Goals as goal

pub loop-at-preserved : goal.loop-at-preserved
loop-at-preserved g c = record {
  within = omega arith;
  rest =
      c.loop-at.invariant.rest
      ∙ first_clause_next c.args.clauses.now c.args.env.now c.args.message.now c.loop-at.at c.index-clauses-at.result c.loop-at-test.true
      (ap (λ (d : Clause). is_some (takes d c.args.env.now c.args.message.now)) (sym c.index-clauses-at.is) ∙ sym c.accepts.ensures.taken ∙ c.if-accepts.false);
  ticks = omega arith;
}
