use Rattle.std.proofs.Common.{◌≡◌, ◌+◌, ◌-◌, ◌<◌, ◌≤◌, [], length, refl, sym, ◌∙◌, ap, arith}
use Rattle.sig_tokens.specs.declared.known.Known.TheVariants.{Any}
use Rattle.sig_tokens.specs.Expressions.{expr_spelling}
use Rattle.sig_tokens.specs.Phrases.{elements, ending, phrase_at}
use Rattle.sig_tokens.specs.Skipping.{left_by}
use Rattle.sig_tokens.proofs.PhraseLemmas.{no_room}
use Rattle.sig_tokens.proofs.SkipLemmas.{front_token, none_left, no_node_left, no_token_left, brace_left, bracket_left, word_left, empty_left, some_left, nothing_left, element_refused, elements_left, elements_go_on}
use Rattle.sig_tokens.proofs.skipping.+skip.Goals as goal
use Rattle.sig_tokens.proofs.skipping.+skip.Goals.{skip-then-depth-eq0-via-then-depth-eq0, skip-then-depth-eq0-via-else-depth-eq0+then-nodes-eq0}

pub skip-returns-then-depth-eq0-clause-left : goal.skip-returns-then-depth-eq0-clause-left
skip-returns-then-depth-eq0-clause-left t c =
    elim c.then-depth-eq0.branch [
      | skip-then-depth-eq0-via-then-depth-eq0 w ↦ none_left c.args.line.now c.args.depth c.args.nodes c.args.tokens.now w.if-depth-eq0.true
      | skip-then-depth-eq0-via-else-depth-eq0+then-nodes-eq0 w ↦ no_node_left c.args.line.now c.args.depth c.args.nodes c.args.tokens.now w.if-nodes-eq0.true
    ]

pub skip-returns-in-empty-clause-left : goal.skip-returns-in-empty-clause-left
skip-returns-in-empty-clause-left t c =
    no_token_left c.args.line.now c.args.depth c.args.nodes c.args.tokens.now c.if-depth-eq0.false c.if-nodes-eq0.false c.in-empty.len_below

pub skip-returns-then-is_sign-clause-left : goal.skip-returns-then-is_sign-clause-left
skip-returns-then-is_sign-clause-left t c =
    c.skip_bracket.ensures.left
    ∙ sym (brace_left c.args.line.now c.args.depth c.args.nodes c.args.tokens.now _ _ c.if-depth-eq0.false c.if-nodes-eq0.false
    (front_token c.args.tokens.now _ c.in-len1-up.len_at_least) c.if-is_sign.ensures)

pub skip-returns-then-is_sign-2-clause-left : goal.skip-returns-then-is_sign-2-clause-left
skip-returns-then-is_sign-2-clause-left t c =
    c.skip_bracket-then-is_sign-2.ensures.left
    ∙ sym (bracket_left c.args.line.now c.args.depth c.args.nodes c.args.tokens.now _ _ c.if-depth-eq0.false c.if-nodes-eq0.false
    (front_token c.args.tokens.now _ c.in-len1-up.len_at_least) c.if-is_sign.ensures c.if-is_sign-2.ensures)

pub skip-returns-else-is_sign-2-clause-left : goal.skip-returns-else-is_sign-2-clause-left
skip-returns-else-is_sign-2-clause-left t c =
    c.skip_single.ensures.left
    ∙ sym (word_left c.args.line.now c.args.depth c.args.nodes c.args.tokens.now _ _ c.if-depth-eq0.false c.if-nodes-eq0.false
    (front_token c.args.tokens.now _ c.in-len1-up.len_at_least) c.if-is_sign.ensures c.if-is_sign-2.ensures)

pub skip_bracket-returns-in-empty-clause-left : goal.skip_bracket-returns-in-empty-clause-left
skip_bracket-returns-in-empty-clause-left t c =
    nothing_left c.args.close (phrase_at expr_spelling Any c.args.line.now c.args.depth) c.args.nodes c.args.tokens.now c.in-empty.len_below

pub skip_bracket-returns-then-closes-clause-left : goal.skip_bracket-returns-then-closes-clause-left
skip_bracket-returns-then-closes-clause-left t c =
    empty_left c.args.close (phrase_at expr_spelling Any c.args.line.now c.args.depth) c.args.nodes c.args.tokens.now _ _
    (front_token c.args.tokens.now _ c.in-len1-up.len_at_least) c.if-closes.ensures

pub skip_bracket-returns-else-closes-clause-left : goal.skip_bracket-returns-else-closes-clause-left
skip_bracket-returns-else-closes-clause-left t c =
    c.skip_elements.ensures.left
    ∙ sym (some_left c.args.close (phrase_at expr_spelling Any c.args.line.now c.args.depth) c.args.nodes c.args.tokens.now _ _
    (front_token c.args.tokens.now _ c.in-len1-up.len_at_least) c.if-closes.ensures)

pub skip_elements-returns-in_err-fewer-clause-left : goal.skip_elements-returns-in_err-fewer-clause-left
skip_elements-returns-in_err-fewer-clause-left t c =
    let read = phrase_at expr_spelling Any c.args.line.now c.args.depth in
    rw c.from_residual.ensures (element_refused c.args.close read (length c.args.tokens.now) c.loop.counter c.loop.left c.loop.invariant.whole.0 c.loop.rest.now _
    c.loop-test.true c.loop.invariant.whole.1 c.in_err-fewer.ensures.left)

pub skip_elements-returns-in-None-clause-left : goal.skip_elements-returns-in-None-clause-left
skip_elements-returns-in-None-clause-left t c =
    let read = phrase_at expr_spelling Any c.args.line.now c.args.depth in
    c.skip_close.ensures.left
    ∙ elements_left c.args.close read (length c.args.tokens.now) c.loop.counter c.loop.left c.loop.invariant.whole.0 c.loop.rest.now c.in_ok-fewer.fewer c.in_ok-fewer.behind.now _
    c.loop-test.true c.in_ok-fewer.ensures.left c.in-None.ensures.rest c.loop.invariant.whole.1

pub skip_elements-loop-preserved : goal.skip_elements-loop-preserved
skip_elements-loop-preserved t c =
    let read = phrase_at expr_spelling Any c.args.line.now c.args.depth in
    record {
      within = omega (arith, c.in-Some.ensures.within, c.in_ok-fewer.ensures.within, c.loop.invariant.within);
      whole = elements_go_on c.args.close read (length c.args.tokens.now) c.loop.counter c.loop.left c.loop.invariant.whole.0 c.loop.rest.now c.in_ok-fewer.fewer c.in_ok-fewer.behind.now
          c.in-Some.more.now _ c.loop-test.true c.in_ok-fewer.ensures.left c.in-Some.ensures.rest c.loop.invariant.whole.1;
    }

pub skip_elements-returns-clause-left : goal.skip_elements-returns-clause-left
skip_elements-returns-clause-left t c =
    let read = phrase_at expr_spelling Any c.args.line.now c.args.depth in
    rw (no_room read (ending expr_spelling c.args.close read) (length c.args.tokens.now) c.loop.counter c.loop.left c.loop.invariant.whole.0 c.loop.rest.now _
    c.loop-test.false c.loop.invariant.whole.1) refl
