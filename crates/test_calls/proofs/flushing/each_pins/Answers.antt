use Rattle.std.proofs.Common.{◌≡◌, ℕ, true, All, take, length, sym, subst, ap, ◌∙◌, arith, rules}
use Rattle.std.proofs.lemmas.List.{take_all}
use Rattle.std.proofs.lemmas.List.Elements.{All-more}
use Rattle.sig_patterns.specs.declared.clause.Clause.{Clause}
use Rattle.sig_patterns.specs.Pinning.{pins}
use Rattle.test_calls.proofs.flushing.each_pins.Goals as goal

pub loop-clause-preserved : goal.loop-clause-preserved
loop-clause-preserved c =
    let P : Clause → Type 0 = λ x. pins x.pattern c.args.var.now ≡ true in
    All-more P c.args.clauses.now c.loop-clause.clause-index c.clause-item.result (omega (arith, c.loop-clause-test.true)) c.loop-clause.invariant
    (let own : pins c.clause-item.result.pattern c.args.var.now ≡ true = search rules in subst P c.clause-item.is own)

pub returns : goal.returns
returns c = λ yes.
    let P : Clause → Type 0 = λ x. pins x.pattern c.args.var.now ≡ true in
    subst (λ (xs : _). All P xs) (take_all c.loop-clause.clause-index c.args.clauses.now (omega (arith, c.loop-clause-test.false))) c.loop-clause.invariant
