use Rattle.std.proofs.Common.{sym, ◌∙◌}
use Rattle.sig_terms.specs.TermTest.{same_term}
use Rattle.sig_terms.specs.declared.term.Term.TheVariants as term
use Rattle.sig_terms.specs.declared.term.Term.TheOpen as layer
use Rattle.sig_terms.proofs.SameTerms.{same_at}
use Rattle.sig_terms.proofs.SameLists.{each_goes_on}
use Rattle.sig_terms.proofs.term.+same.Goals as goal

pub same_terms-loop-i-preserved : goal.same_terms-loop-i-preserved
same_terms-loop-i-preserved t c = (
  c.loop-i.invariant.0,
  c.loop-i.invariant.1 ∙ each_goes_on c.args.a.now c.args.b.now c.loop-i.i c.index-a-i.result c.index-b-i.result c.loop-i-test.true c.loop-i.invariant.0 c.index-a-i.is c.index-b-i.is (sym c.equals.ensures ∙ c.if-not-equals.false),
)

pub Term::equals-returns-in-Ref-Ref : goal.Term::equals-returns-in-Ref-Ref
Term::equals-returns-in-Ref-Ref t c =
    let self = c.in-Ref-Ref.is-0 ∙ sym (term.rolls-Ref c.in-Ref-Ref.a) in
    let other = c.in-Ref-Ref.is-1 ∙ sym (term.rolls-Ref c.in-Ref-Ref.b) in
    c.eq-in-Ref-Ref.ensures ∙ sym ((λ i. same_term (self i) (other i)) ∙ same_at (layer.Ref c.in-Ref-Ref.a) (layer.Ref c.in-Ref-Ref.b))
