use Rattle.std.proofs.Common.{arith, ◌∙◌, ap, refl, ◌≡◌, ◌<◌, ◌≤◌, ◌++◌, ◌∷◌, [], length, Ok, sym}
use Rattle.sig_tokens.specs.Phrases.{elements, ending, phrase_at}
use Rattle.sig_tokens.proofs.PhraseLemmas.{element_stops, last_element, no_room, no_depth, no_nodes, no_tokens, bracketed_none, bracketed_closed, bracketed_some, goes_on, phrase_step, HasNoComma, other_first, none_first}
use Rattle.sig_tokens.proofs.phrases.+front.Goals.{front-then-depth-eq0-via-then-depth-eq0, front-then-depth-eq0-via-else-depth-eq0+then-nodes-eq0, some_elements-in_default-via-in-Some+else-is_sign, some_elements-in_default-via-in_default}
use Rattle.sig_tokens.proofs.phrases.+front.Goals as goal

pub behind_bracket-returns-in-None-clause-value : goal.behind_bracket-returns-in-None-clause-value
behind_bracket-returns-in-None-clause-value g t c = bracketed_none g.T.Phrase.spelling c.args.close _ c.args.nodes c.args.line.tokens c.in-None.ensures

pub behind_bracket-returns-then-closes-clause-value : goal.behind_bracket-returns-then-closes-clause-value
behind_bracket-returns-then-closes-clause-value g t c =
    bracketed_closed g.T.Phrase.spelling c.args.close _ c.args.nodes c.args.line.tokens c.in-Some.rest.tokens c.in-Some.token c.enclosing.result c.in-Some.ensures.0 (sym c.if-closes.ensures)
    (c.enclosing.ensures ∙ ap (g.T.Phrase.spelling.enclosing c.args.close) c.new.ensures)

pub behind_bracket-returns-else-closes-clause-value : goal.behind_bracket-returns-else-closes-clause-value
behind_bracket-returns-else-closes-clause-value g t c =
    rw (bracketed_some g.T.Phrase.spelling c.args.close (phrase_at g.T.Phrase.spelling c.args.known.now c.args.line.text c.args.depth) c.args.nodes c.args.line.tokens c.in-Some.rest.tokens c.in-Some.token
    c.in-Some.ensures.0 (sym c.if-closes.ensures))
    c.some_elements.ensures.value

pub front-returns-then-depth-eq0-clause-value : goal.front-returns-then-depth-eq0-clause-value
front-returns-then-depth-eq0-clause-value g t c =
    rw c.refusal.ensures (elim c.then-depth-eq0.branch [
      | front-then-depth-eq0-via-then-depth-eq0 w ↦ no_depth g.T.Phrase.spelling c.args.known.now c.args.line.now.text c.args.depth c.args.nodes c.args.line.now.tokens w.if-depth-eq0.true
      | front-then-depth-eq0-via-else-depth-eq0+then-nodes-eq0 w ↦ no_nodes g.T.Phrase.spelling c.args.known.now c.args.line.now.text c.args.depth c.args.nodes c.args.line.now.tokens w.if-nodes-eq0.true
    ])

pub front-returns-in-None-clause-value : goal.front-returns-in-None-clause-value
front-returns-in-None-clause-value g t c =
    no_tokens g.T.Phrase.spelling c.args.known.now c.args.line.now.text c.args.depth c.args.nodes c.args.line.now.tokens c.if-depth-eq0.false c.if-nodes-eq0.false c.in-None.ensures

pub front-returns-in-Some-clause-value : goal.front-returns-in-Some-clause-value
front-returns-in-Some-clause-value g t c =
    rw (
      phrase_step g.T.Phrase.spelling c.args.known.now c.args.line.now.text c.args.depth c.args.nodes c.args.line.now.tokens c.in-Some.rest.tokens c.in-Some.token c.if-depth-eq0.false c.if-nodes-eq0.false c.in-Some.ensures.0,
      ← c.in-Some.ensures.1,
    )
    c.behind_token.ensures.value

pub some_elements-returns-in_err-item-clause-value : goal.some_elements-returns-in_err-item-clause-value
some_elements-returns-in_err-item-clause-value g t c =
    let read = phrase_at g.T.Phrase.spelling c.args.known.now c.args.line.text c.args.depth in
    let finish = ending g.T.Phrase.spelling c.args.close read in
    let whole = elements read finish (length c.args.line.tokens) c.args.nodes [] c.args.line.tokens in
    let lt : c.loop.counter < length c.args.line.tokens = omega (arith, c.loop-test.true, c.len-count.ensures) in
    element_stops _ c.from_residual.result c.in_err-item.field-0.0 read finish (length c.args.line.tokens) c.loop.counter c.loop.left c.loop.items c.loop.rest.tokens whole
    lt c.loop.invariant.items c.from_residual.ensures.1 (rw c.loop.invariant.line at c.in_err-item.ensures.value)

pub some_elements-returns-in_default-clause-value : goal.some_elements-returns-in_default-clause-value
some_elements-returns-in_default-clause-value g t c =
    let read = phrase_at g.T.Phrase.spelling c.args.known.now c.args.line.text c.args.depth in
    let finish = ending g.T.Phrase.spelling c.args.close read in
    let whole = elements read finish (length c.args.line.tokens) c.args.nodes [] c.args.line.tokens in
    let lt : c.loop.counter < length c.args.line.tokens = omega (arith, c.loop-test.true, c.len-count.ensures) in
    let added : c.add.new.self ≡ c.loop.items ++ c.in_ok-item.item ∷ [] = c.in_ok-add.ensures in
    let same : c.in_ok-item.behind.text ≡ c.args.line.text = c.in_ok-item.ensures.line ∙ c.loop.invariant.line in
    let here : read c.loop.left c.loop.rest.tokens ≡ Ok (c.in_ok-item.item, c.in_ok-item.fewer, c.in_ok-item.behind.tokens) = rw c.loop.invariant.line at c.in_ok-item.ensures.value in
    let no_comma : HasNoComma c.in_ok-item.behind.tokens =
    elim c.in_default.branch [
      | some_elements-in_default-via-in-Some+else-is_sign w ↦ other_first c.in_ok-item.behind.tokens w.in-Some.more.tokens w.in-Some.token w.in-Some.ensures.0 (sym w.if-is_sign.ensures)
      | some_elements-in_default-via-in_default w ↦ none_first c.in_ok-item.behind.tokens w.in_default.ensures
    ] in
    rw (
      last_element read finish (length c.args.line.tokens) c.loop.counter c.loop.left c.loop.items c.loop.rest.tokens c.in_ok-item.item c.in_ok-item.fewer c.in_ok-item.behind.tokens whole
          lt here refl no_comma c.loop.invariant.items,
      ← added,
      ← same,
    )
    c.end.ensures.value

pub some_elements-loop-preserved : goal.some_elements-loop-preserved
some_elements-loop-preserved g t c =
    let read = phrase_at g.T.Phrase.spelling c.args.known.now c.args.line.text c.args.depth in
    let finish = ending g.T.Phrase.spelling c.args.close read in
    let whole = elements read finish (length c.args.line.tokens) c.args.nodes [] c.args.line.tokens in
    let lt : c.loop.counter < length c.args.line.tokens = omega (arith, c.loop-test.true, c.len-count.ensures) in
    let added : c.add.new.self ≡ c.loop.items ++ c.in_ok-item.item ∷ [] = c.in_ok-add.ensures in
    let here : read c.loop.left c.loop.rest.tokens ≡ Ok (c.in_ok-item.item, c.in_ok-item.fewer, c.in_ok-item.behind.tokens) = rw c.loop.invariant.line at c.in_ok-item.ensures.value in
    record {
      line = c.in-Some.ensures.1 ∙ c.in_ok-item.ensures.line ∙ c.loop.invariant.line;
      items = rw added (goes_on read finish (length c.args.line.tokens) c.loop.counter c.loop.left c.loop.items c.loop.rest.tokens
          c.in_ok-item.item c.in_ok-item.fewer c.in_ok-item.behind.tokens c.in-Some.more.tokens c.in-Some.token whole lt c.in-Some.ensures.0 (sym c.if-is_sign.ensures) here c.loop.invariant.items);
    }

pub some_elements-returns-clause-value : goal.some_elements-returns-clause-value
some_elements-returns-clause-value g t c =
    let read = phrase_at g.T.Phrase.spelling c.args.known.now c.args.line.text c.args.depth in
    let finish = ending g.T.Phrase.spelling c.args.close read in
    let whole = elements read finish (length c.args.line.tokens) c.args.nodes [] c.args.line.tokens in
    let le : length c.args.line.tokens ≤ c.loop.counter = omega (arith, c.loop-test.false, c.len-count.ensures) in
    no_room read finish (length c.args.line.tokens) c.loop.counter c.loop.left c.loop.items c.loop.rest.tokens whole le c.loop.invariant.items
