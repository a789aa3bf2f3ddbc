use Rattle.std.proofs.Common.{List, Bool, ap, sym, ◌∙◌}
use Rattle.sig_terms.specs.declared.term.Term.{Term}
use Rattle.sig_terms.specs.declared.term.Term.TheVariants as term
use Rattle.sig_terms.specs.declared.term.Term.TheOpen as layer
use Rattle.sig_terms.specs.declared.term.Term.TheFolds.{fold-roll-Term}
use Rattle.sig_terms.specs.Nodes.{holds, holds_step}
use Rattle.sig_terms.proofs.Totals.{any_next}
use Rattle.sig_terms.proofs.+holds_ref.Goals as goal

pub nodes::any_holds_ref-loop-item-preserved : goal.nodes::any_holds_ref-loop-item-preserved
nodes::any_holds_ref-loop-item-preserved t c =
    any_next (holds c.args.reference) c.args.items.now c.loop-item.item-index c.item-item.result c.loop-item-test.true c.item-item.is (sym c.holds_ref.ensures ∙ c.if-holds_ref.false) ∙ c.loop-item.invariant

pub term::Term::holds_ref-returns-in-Tuple : goal.term::Term::holds_ref-returns-in-Tuple
term::Term::holds_ref-returns-in-Tuple t c =
    let r = c.args.reference in
    let items : List Term = c.as_slice.result.now in
    c.any_holds_ref.ensures
    ∙ sym (ap (holds r) (c.in-Tuple.is ∙ ap term.Tuple (sym c.as_slice.ensures) ∙ sym (term.rolls-Tuple items)) ∙ fold-roll-Term Bool (holds_step r) (layer.Tuple items))
