use Rattle.std.proofs.Common.{rules, ◌≡◌, ℕ, List, true, false, ap, sym, ◌∙◌, arith, inl, inr, ⊎_elim}
use Rattle.sig_layout.specs.declared.knows.Knows.{Knows}
use Rattle.sig_layout.specs.Sets.{has, minus}
use Rattle.sig_layout.specs.Views.{number}
use Rattle.sig_layout.proofs.Sending.{not_both, bool_cases}
use Rattle.sig_layout.proofs.Members.{least_of}
use Rattle.test_calls.proofs.PidSets.{kept_in, joined_in}
use Rattle.test_calls.proofs.relay.refuses_while_held.Goals as goal

pub split-holder-requires-clause-some : goal.split-holder-requires-clause-some
split-holder-requires-clause-some c s h = let two = c.only.ensures.alone s h in
    ap (λ (k : Knows). has k.senders s) c.requires.fresh.first ∙ (ap (has c.args.senders) two ∙ c.requires.two.1)

pub hold_and_offer-holder-requires-clause-puts : goal.hold_and_offer-holder-requires-clause-puts
hold_and_offer-holder-requires-clause-puts c = let p : List ℕ = c.args.senders in let o : List ℕ = c.only.result in
    let left = ap (λ (k : Knows). k.senders) c.split-holder.ensures.left ∙ ap (λ (k : Knows). minus k.senders o) c.requires.fresh.first in record {
      own = search rules;
      sender = search rules;
      can = (λ i. has (left i) (c.line.ensures.0 i)) ∙ kept_in p o 1 c.requires.two.0 (λ h. let e : 1 ≡ 2 = c.only.ensures.alone 1 h in omega arith);
      none_put = search rules;
    }

pub hold_and_offer-holder-requires-clause-somebody : goal.hold_and_offer-holder-requires-clause-somebody
hold_and_offer-holder-requires-clause-somebody c e = let r = ap number c.split-holder.ensures.right in let low = least_of c.only.result 2 c.only.ensures.it in absurd (omega arith)

pub close-closed-requires-clause-all : goal.close-closed-requires-clause-all
close-closed-requires-clause-all c s h = let p : List ℕ = c.args.senders in let o : List ℕ = c.only.result in
    let left = ap (λ (k : Knows). k.senders) c.split-holder.ensures.left ∙ ap (λ (k : Knows). minus k.senders o) c.requires.fresh.first in
    let mine = c.hold_and_offer-holder.ensures.stays.1 ∙ left in
    let its = c.hold_and_offer-holder.ensures.holder.1 ∙ ap (λ (k : Knows). k.senders) c.split-holder.ensures.right in
    let all : has p s ≡ true = ap (λ (l : List ℕ). has l s) (sym c.requires.fresh.senders_are) ∙ h in
    ap (λ (k : Knows). has k.senders s) c.join.ensures.both ∙ joined_in c.hold_and_offer-holder.new.seat.knows.senders c.hold_and_offer-holder.result.0.knows.senders s (⊎_elim
    (λ (t : has o s ≡ true). inr (ap (λ (l : List ℕ). has l s) its ∙ t))
    (λ (f : has o s ≡ false). inl (ap (λ (l : List ℕ). has l s) mine ∙ kept_in p o s all (λ t. not_both (has o s) t f)))
    (bool_cases (has o s)))
