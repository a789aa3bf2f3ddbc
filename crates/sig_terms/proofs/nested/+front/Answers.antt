use Rattle.std.proofs.Common.{◌-◌, ◌+◌}
use Rattle.sig_terms.specs.Fronts.{term_at, elements_at}
use Rattle.sig_terms.proofs.Choices.{at_none}
use Rattle.sig_terms.proofs.Steps.{behind_item, goes_on, ends, breaks, runs_out}
use Rattle.sig_terms.proofs.nested.+front.Goals.{elements-in_default-via-in-Some+else-last-close, elements-in_default-via-in_default}
use Rattle.sig_terms.proofs.nested.+front.Goals as goal

pub elements-loop-preserved : goal.elements-loop-preserved
elements-loop-preserved t c =
    goes_on c.args.close (elements_at (term_at c.args.depth) c.args.close (c.args.nodes - (c.loop.counter + 1))) c.in_ok-item.fewer c.add.new.self c.in_ok-item.behind.now c.in-Some-eq44-default.field-0-0.now c.in-Some-eq44-default.more.now _ c.in-Some-eq44-default.ensures.cases.0 c.in-Some-eq44-default.field-0-0-test
    (behind_item (term_at c.args.depth) c.args.close c.args.nodes c.loop.counter c.loop.left c.loop.items c.loop.rest.now c.in_ok-item.item c.in_ok-item.fewer c.in_ok-item.behind.now c.add.new.self _ c.loop-test.true c.in_ok-item.ensures c.in_ok-add.ensures c.loop.invariant)

pub elements-returns-in-Some : goal.elements-returns-in-Some
elements-returns-in-Some t c =
    ends c.args.close (elements_at (term_at c.args.depth) c.args.close (c.args.nodes - (c.loop.counter + 1))) c.in_ok-item.fewer c.add.new.self c.in_ok-item.behind.now c.in-Some.last.now c.in-Some.end.now _ c.in-Some.ensures.cases.0 c.in-Some.last-test.1 c.if-last-close.true
    (behind_item (term_at c.args.depth) c.args.close c.args.nodes c.loop.counter c.loop.left c.loop.items c.loop.rest.now c.in_ok-item.item c.in_ok-item.fewer c.in_ok-item.behind.now c.add.new.self _ c.loop-test.true c.in_ok-item.ensures c.in_ok-add.ensures c.loop.invariant)

pub elements-returns-in_default : goal.elements-returns-in_default
elements-returns-in_default t c =
    let more = elements_at (term_at c.args.depth) c.args.close (c.args.nodes - (c.loop.counter + 1)) in
    let behind =
    behind_item (term_at c.args.depth) c.args.close c.args.nodes c.loop.counter c.loop.left c.loop.items c.loop.rest.now c.in_ok-item.item c.in_ok-item.fewer c.in_ok-item.behind.now c.add.new.self _ c.loop-test.true c.in_ok-item.ensures c.in_ok-add.ensures c.loop.invariant in
    elim c.in_default.branch [
      | elements-in_default-via-in-Some+else-last-close w ↦ breaks c.args.close more c.in_ok-item.fewer c.add.new.self c.in_ok-item.behind.now w.in-Some.last.now w.in-Some.end.now _ w.in-Some.ensures.cases.0 w.in-Some.last-test.1 w.if-last-close.false behind
      | elements-in_default-via-in_default w ↦ runs_out c.args.close more c.in_ok-item.fewer c.add.new.self c.in_ok-item.behind.now _ (at_none c.split_first.result _ _ w.in_default.is c.split_first.ensures.cases) behind
    ]
