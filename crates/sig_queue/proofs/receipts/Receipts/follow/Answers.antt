use Rattle.std.proofs.Common.{rules, ◌≡◌, ℕ, List, length, get_or, set, sym, ap, ◌∙◌, subst, arith, refl, [], ◌∷◌}
use Rattle.std.specs.Prelude.{vec_len}
use Rattle.sig_queue.specs.declared.account.Account.{Account}
use Rattle.sig_queue.specs.Accounts.{MayFollow, EachMayFollow, all_followed, followed}
use Rattle.sig_queue.proofs.Following.{Following, starts, ends, within, may_follow, goes_on, none_left}
use Rattle.sig_queue.proofs.Bodies.{Keeps, each}
use Rattle.sig_queue.proofs.receipts.Receipts.follow.Code as code
use Rattle.sig_queue.proofs.receipts.Receipts.follow.Goals as goal

pub loop-receipt-init : goal.loop-receipt-init
loop-receipt-init c = starts _ _ (subst (λ (p : List Account × List Account). EachMayFollow p.0 p.1) (λ i. (sym c.self.view_is i, sym c.later.view_is i)) c.requires)

pub index_mut-requires : goal.index_mut-requires
index_mut-requires c = let w = within _ _ _ _ _ _ c.loop-receipt.invariant c.in-Some.ensures.items in
    let here : c.len.result ≡ length c.pop.new.self.items = search rules in
    let all : vec_len c.loop-receipt.self-inside.items ≡ length c.loop-receipt.self-inside.items.items = search rules in omega arith

pub follow-requires : goal.follow-requires
follow-requires c = let now : List Account = c.loop-receipt.self-inside.items.items in let d : Account = c.index_mut.result.now in let here : c.len.result ≡ length c.pop.new.self.items = search rules in
    subst (λ (x : Account). MayFollow x c.in-Some.receipt) (sym (c.index_mut.ensures.value ∙ ap (λ (n : ℕ). get_or now n d) here)) (may_follow _ _ _ _ _ _ c.loop-receipt.invariant c.in-Some.ensures.items d)

pub loop-receipt-preserved : goal.loop-receipt-preserved
loop-receipt-preserved c = let now : List Account = c.loop-receipt.self-inside.items.items in let d : Account = c.index_mut.result.now in let r : Account = c.in-Some.receipt in let here : c.len.result ≡ length c.pop.new.self.items = search rules in
    let follows : followed (get_or now (length c.pop.new.self.items) d) r ≡ c.follow.new.self = ap (λ (x : Account). followed x r) (sym (c.index_mut.ensures.value ∙ ap (λ (n : ℕ). get_or now n d) here)) ∙ sym c.follow.ensures in
    subst (λ (l : List Account). Following c.self.inside.items.items c.later.inside.items.items l c.pop.new.self.items) (λ i. set now (sym here i) (follows i)) (goes_on _ _ _ _ _ _ c.loop-receipt.invariant c.in-Some.ensures.items d)

pub returns : goal.returns
returns c = let none : length c.loop-receipt.items.items ≡ 0 = search rules in
    ends _ _ _ (subst (λ (l : List Account). Following c.self.inside.items.items c.later.inside.items.items c.loop-receipt.self-inside.items.items l) (none_left c.loop-receipt.items.items none) c.loop-receipt.invariant) ∙ (λ i. all_followed (c.self.view_is i) (c.later.view_is i))

code_keeps : Keeps (each "std_alloc::vec::Vec::pop" ∷ []) code.function
code_keeps = (refl, refl)
