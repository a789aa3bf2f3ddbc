use Rattle.std.proofs.Common.{rules, ◌≡◌, ◌⊎◌, ℕ, List, true, ap, sym, ◌∙◌, arith, inl, inr, ⊎_elim}
use Rattle.sig_layout.specs.declared.knows.Knows.{Knows}
use Rattle.sig_layout.specs.Sets.{has, minus}
use Rattle.test_calls.proofs.PidSets.{kept_in, joined_in}
use Rattle.test_calls.proofs.relay.put_sixty.Goals as goal

pub split-second-requires-clause-some : goal.split-second-requires-clause-some
split-second-requires-clause-some g c s h = let all : List ℕ = c.args.senders in let one : List ℕ = c.only.result in
    let left = ap (λ (k : Knows). k.senders) c.split-first.ensures.left ∙ ap (λ (k : Knows). minus k.senders one) c.requires.fresh.first in
    let is : s ≡ 2 = c.only-2.ensures.alone s h in
    ap (λ (l : List ℕ). has l s) left ∙ kept_in all one s (ap (has all) is ∙ c.requires.three.1) (λ t. let e : s ≡ 1 = c.only.ensures.alone s t in omega arith)

pub split-third-requires-clause-some : goal.split-third-requires-clause-some
split-third-requires-clause-some g c s h = let all : List ℕ = c.args.senders in let one : List ℕ = c.only.result in let two : List ℕ = c.only-2.result in
    let left = ap (λ (k : Knows). k.senders) c.split-first.ensures.left ∙ ap (λ (k : Knows). minus k.senders one) c.requires.fresh.first in
    let last = ap (λ (k : Knows). k.senders) c.split-second.ensures.left ∙ ap (λ (l : List ℕ). minus l two) left in
    let is : s ≡ 3 = c.only-3.ensures.alone s h in
    ap (λ (l : List ℕ). has l s) last ∙ kept_in (minus all one) two s
    (kept_in all one s (ap (has all) is ∙ c.requires.three.2) (λ t. let e : s ≡ 1 = c.only.ensures.alone s t in omega arith))
    (λ t. let e : s ≡ 2 = c.only-2.ensures.alone s t in omega arith)

pub returns : goal.returns
returns g c = let r = c.put_three-first.result in let a : Knows = r.0.0.0.knows in let b : Knows = r.0.1.0.knows in let d : Knows = r.1.0.0.knows in
    let u : Knows = r.1.1.0.knows in let v : Knows = c.join.new.seat.knows in let w : Knows = c.join-2.new.seat.knows in
    let first = c.put_three-first.ensures.first.1 ∙ ap (λ (k : Knows). k.senders) c.split-first.ensures.right in
    let second = c.put_three-first.ensures.second.1 ∙ ap (λ (k : Knows). k.senders) c.split-second.ensures.right in
    let third = c.put_three-first.ensures.third.1 ∙ ap (λ (k : Knows). k.senders) c.split-third.ensures.right in
    let more : (s : ℕ) → (has v.senders s ≡ true) ⊎ (has b.senders s ≡ true) → has w.senders s ≡ true = (λ s x. ap (λ (k : Knows). has k.senders s) c.join-2.ensures.both ∙ joined_in v.senders b.senders s x) in record {
      own = search rules;
      role = search rules;
      all = λ s h. ap (λ (k : Knows). has k.senders s) c.join-3.ensures.both ∙ joined_in w.senders d.senders s (⊎_elim
          (λ (e : s ≡ 1). inl (more s (inl (ap (λ (k : Knows). has k.senders s) c.join.ensures.both ∙ joined_in u.senders a.senders s (inr (ap (λ (l : List ℕ). has l s) first ∙ (ap (has c.only.result) e ∙ c.only.ensures.it)))))))
          (λ (o : (s ≡ 2) ⊎ (s ≡ 3)). ⊎_elim
          (λ (e : s ≡ 2). inl (more s (inr (ap (λ (l : List ℕ). has l s) second ∙ (ap (has c.only-2.result) e ∙ c.only-2.ensures.it)))))
          (λ (e : s ≡ 3). inr (ap (λ (l : List ℕ). has l s) third ∙ (ap (has c.only-3.result) e ∙ c.only-3.ensures.it))) o)
          (c.requires.alone s (ap (λ (l : List ℕ). has l s) (sym c.requires.fresh.senders_are) ∙ h)));
    }
