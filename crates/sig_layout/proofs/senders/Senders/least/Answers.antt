use Rattle.std.proofs.Common.{◌≡◌, rules, ap, sym, arith, get_or, List, ℕ}
use Rattle.sig_layout.proofs.Members.{none_more, least_word, least_none}
use Rattle.sig_layout.proofs.senders.Senders.least.Goals as goal

pub loop-at-init : goal.loop-at-init
loop-at-init c s h = absurd (omega arith)

pub loop-at-preserved : goal.loop-at-preserved
loop-at-preserved c = let view : c.self.inside.0 ≡ c.args.self = search rules in
    none_more c.args.self _ c.loop-at.at (ap (λ (z : List ℕ). get_or z c.loop-at.at 0) (sym view)) c.if-word-ne0.false c.loop-at.invariant

pub returns-then-word-ne0-clause-least : goal.returns-then-word-ne0-clause-least
returns-then-word-ne0-clause-least c = let view : c.self.inside.0 ≡ c.args.self = search rules in let low = c.lowest_bit.ensures in
    sym (least_word c.args.self _ c.loop-at.at c.lowest_bit.result c.loop-at-test.true low.within (ap (λ (z : List ℕ). get_or z c.loop-at.at 0) (sym view)) low.one low.lowest c.loop-at.invariant)

pub returns-clause-least : goal.returns-clause-least
returns-clause-least c = sym (least_none c.args.self c.loop-at.at c.loop-at-test.false c.loop-at.invariant)
