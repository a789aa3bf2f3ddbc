use Rattle.std.proofs.Common.{◌≡◌, ◌++◌, append_assoc, sym, ap, arith, ◌∙◌}
use Rattle.std.proofs.lemmas.Grind.{common_steps}
use Rattle.std.proofs.lemmas.Result.{on_ok_weaker}
use Rattle.sig_terms.specs.declared.term.Term.TheVariants as term
use Rattle.sig_patterns.specs.declared.pattern.Pattern.TheVariants as pattern
use Rattle.sig_patterns.specs.Matching.{Bindings}
use Rattle.sig_patterns.specs.Fitting.{bindings_of, placed, term_seen}
use Rattle.sig_patterns.proofs.PastTheEnd.{placed_each-nothing}
use Rattle.sig_patterns.proofs.NextPlace.{placed_each_next}
use Rattle.sig_patterns.proofs.PartWalks.{placed_bind, placed_tuple, placed_list, placed_cut}
use Rattle.sig_patterns.proofs.binding.+collect.Goals as goal

pub collect_each-returns-then-i-terms : goal.collect_each-returns-then-i-terms
collect_each-returns-then-i-terms t c = grind (arith, common_steps, placed_each-nothing)

pub collect_each-loop-i-preserved : goal.collect_each-loop-i-preserved
collect_each-loop-i-preserved t c =
    placed_each_next c.args.patterns.now c.in-Some.terms.now c.loop-i.i c.index-patterns-i.result c.index-terms-i.result (bindings_of c.loop-i.into.items) (bindings_of c.collect.new.into.items)
    c.loop-i-test.true c.if-i-terms.false c.index-patterns-i.is c.index-terms-i.is c.in_ok-collect.ensures
    ∙ c.loop-i.invariant

pub collect-returns-in-Bind : goal.collect-returns-in-Bind
collect-returns-in-Bind t c =
    on_ok_weaker c.add.result (λ e. e ∙ ap (λ (bs : Bindings). bindings_of c.args.into.now.items ++ bs) (placed_bind c.args.pattern.now c.in-Bind.var (term_seen c.args.seen) c.in-Bind.is)) c.add.ensures

pub collect-returns-in-Tuple : goal.collect-returns-in-Tuple
collect-returns-in-Tuple t c =
    on_ok_weaker c.collect_each.result
    (λ e. e
    ∙ ap (λ (bs : Bindings). bindings_of c.args.into.now.items ++ bs)
    (placed_tuple c.args.pattern.now c.as_slice.result.now (term_seen c.args.seen) _ (c.in-Tuple.is ∙ ap pattern.Tuple (sym c.as_slice.ensures)) c.tuple_items.ensures))
    c.collect_each.ensures

pub collect-returns-in-List : goal.collect-returns-in-List
collect-returns-in-List t c =
    on_ok_weaker c.collect_each-in-List.result
    (λ e. e
    ∙ ap (λ (bs : Bindings). bindings_of c.args.into.now.items ++ bs)
    (placed_list c.args.pattern.now c.as_slice-in-List.result.now (term_seen c.args.seen) _ (c.in-List.is ∙ ap pattern.List (sym c.as_slice-in-List.ensures)) c.list_items.ensures))
    c.collect_each-in-List.ensures

pub collect-returns-in_ok-collect-in-Some : goal.collect-returns-in_ok-collect-in-Some
collect-returns-in_ok-collect-in-Some t c =
    let before = bindings_of c.args.into.now.items in
    let head = c.get.result.now in
    let tail = c.get-in-Some.result.now in
    let is : c.args.pattern.now ≡ pattern.Cons head tail = c.in-Cons.is ∙ (λ i. pattern.Cons (sym c.get.ensures i) (sym c.get-in-Some.ensures i)) in
    on_ok_weaker c.collect-in-Some.result
    (λ e. e
    ∙ ap (λ (bs : Bindings). bs ++ placed tail (term.List c.in-Some.rest.now)) c.in_ok-collect-in-Some.ensures
    ∙ append_assoc before (placed head c.in-Some.first.now) (placed tail (term.List c.in-Some.rest.now))
    ∙ ap (λ (bs : Bindings). before ++ bs) (placed_cut c.args.pattern.now head tail (term_seen c.args.seen) c.in-Some.first.now c.in-Some.rest.now is c.in-Some.ensures))
    c.collect-in-Some.ensures
