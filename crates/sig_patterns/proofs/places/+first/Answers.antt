use Rattle.std.proofs.Common.{arith, sym, ap, ◌∙◌}
use Rattle.std.proofs.lemmas.Grind.{common_steps}
use Rattle.std.specs.Option.{option_map}
use Rattle.sig_patterns.specs.declared.pattern.Pattern.TheVariants as pattern
use Rattle.sig_patterns.specs.Fitting.{term_seen}
use Rattle.sig_patterns.proofs.PastTheEnd.{first_each-none}
use Rattle.sig_patterns.proofs.NextPlace.{first_each_next}
use Rattle.sig_patterns.proofs.PartWalks.{first_tuple, first_list}
use Rattle.sig_patterns.proofs.places.+first.Goals as goal

pub first_in_each-returns-then-i-terms : goal.first_in_each-returns-then-i-terms
first_in_each-returns-then-i-terms t c = grind (arith, common_steps, first_each-none)

pub first_in_each-loop-i-preserved : goal.first_in_each-loop-i-preserved
first_in_each-loop-i-preserved t c =
    c.loop-i.invariant
    ∙ first_each_next c.args.patterns.now c.in-Some.terms.now c.loop-i.i c.index-patterns-i.result c.index-terms-i.result c.args.var.now.0 c.loop-i-test.true c.if-i-terms.false c.index-patterns-i.is c.index-terms-i.is
    (sym c.first_in.ensures ∙ ap (option_map term_seen) c.in_default-first_in.is)

pub first_in-returns-in-Tuple : goal.first_in-returns-in-Tuple
first_in-returns-in-Tuple t c =
    c.first_in_each.ensures
    ∙ first_tuple c.args.pattern.now c.as_slice.result.now (term_seen c.args.seen) c.args.var.now.0 _ (c.in-Tuple.is ∙ ap pattern.Tuple (sym c.as_slice.ensures)) c.tuple_items.ensures

pub first_in-returns-in-List : goal.first_in-returns-in-List
first_in-returns-in-List t c =
    c.first_in_each-in-List.ensures
    ∙ first_list c.args.pattern.now c.as_slice-in-List.result.now (term_seen c.args.seen) c.args.var.now.0 _ (c.in-List.is ∙ ap pattern.List (sym c.as_slice-in-List.ensures)) c.list_items.ensures
