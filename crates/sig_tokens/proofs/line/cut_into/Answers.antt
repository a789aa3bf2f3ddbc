use Rattle.std.proofs.Common.{sym, ◌∙◌, ap, arith}
use Rattle.sig_tokens.proofs.CutLemmas.{joined, joined-nil, joined-more, comment-step, blank-step, stop-step, token-step, end-step, token-within, rest-is_drop}
use Rattle.sig_tokens.proofs.SpellingLemmas.{tokens-push, token-known}
use Rattle.sig_tokens.proofs.line.cut_into.Goals as goal

pub returns-then-b-eq37-clause-cut : goal.returns-then-b-eq37-clause-cut
returns-then-b-eq37-clause-cut c =
    sym (joined-nil _ _) ∙ ap (joined c.loop-at.tokens) (sym (comment-step c.args.version c.loop-at.at c.args.line.now c.loop-at-test.true c.if-b-eq37.true)) ∙ c.loop-at.invariant.tokens

pub loop-at-preserved-then-is_blank_byte : goal.loop-at-preserved-then-is_blank_byte
loop-at-preserved-then-is_blank_byte c = record {
  within = omega arith;
  tokens = ap (joined c.loop-at.tokens) (sym (blank-step c.args.version c.loop-at.at c.args.line.now c.loop-at-test.true (sym c.if-is_blank_byte.ensures))) ∙ c.loop-at.invariant.tokens;
  known = c.loop-at.invariant.known;
}

pub returns-in_default-clause-cut : goal.returns-in_default-clause-cut
returns-in_default-clause-cut c =
    sym (joined-nil _ _) ∙ ap (joined c.loop-at.tokens) (sym (stop-step c.args.version c.loop-at.at c.args.line.now c.loop-at-test.true (sym c.if-is_blank_byte.ensures) c.if-b-eq37.false (sym c.in_default.ensures.token))) ∙ c.loop-at.invariant.tokens

pub loop-at-preserved : goal.loop-at-preserved
loop-at-preserved c = record {
  within = token-within c.loop-at.at c.in-Some.len c.args.line.now c.loop-at-test.true c.in-Some.ensures.within.1;
  tokens = let step = token-step c.args.version c.loop-at.at c.args.line.now c.in-Some.kind c.in-Some.len c.loop-at-test.true (sym c.if-is_blank_byte.ensures) c.if-b-eq37.false (sym c.in-Some.ensures.token) c.in-Some.ensures.within.0 c.in-Some.ensures.within.1 in rw c.in_ok-add.ensures (joined-more _ _ _ ∙ ap (joined c.loop-at.tokens) (sym step) ∙ c.loop-at.invariant.tokens);
  known = rw c.in_ok-add.ensures (tokens-push c.args.line.now c.loop-at.tokens _ c.loop-at.invariant.known
      (token-known c.args.version c.args.line.now c.loop-at.at c.in-Some.kind c.in-Some.len _ (rest-is_drop c.loop-at.at c.args.line.now) (sym c.in-Some.ensures.token)
      (token-within c.loop-at.at c.in-Some.len c.args.line.now c.loop-at-test.true c.in-Some.ensures.within.1)));
}

pub returns-clause-cut : goal.returns-clause-cut
returns-clause-cut c = sym (joined-nil _ _) ∙ ap (joined c.loop-at.tokens) (sym (end-step c.args.version c.loop-at.at c.args.line.now c.loop-at-test.false)) ∙ c.loop-at.invariant.tokens
