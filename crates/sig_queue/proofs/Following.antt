-- Lists of receipts that are followed from the last one on.
use Rattle.std.proofs.Common.{◌≡◌, suc, ◌<◌, List, [], ◌∷◌, ◌++◌, length, get_or, set, subst, sym, refl, ap, ◌∙◌, arith, append_assoc, append-nil}
use Rattle.std.proofs.lemmas.List.{length-append}
use Rattle.sig_queue.specs.declared.account.Account.{Account}
use Rattle.sig_queue.specs.Accounts.{MayFollow, followed, EachMayFollow, all_followed}

-- The receipts of the first list from some place on are followed by those of the second, and those of the second before that place
-- are left.
pub record Following (firsts laters now left : List Account) : Type 0 where
  pub xs : List Account
  pub ys : List Account
  pub ws : List Account
  pub all : firsts ≡ xs ++ ys
  pub every : laters ≡ left ++ ws
  pub is : now ≡ xs ++ all_followed ys ws
  pub may : EachMayFollow xs left

pub same_length : (xs ys : List Account) → EachMayFollow xs ys → length xs ≡ length ys
same_length [] [] h = refl
same_length [] (y ∷ ys) h = absurd h
same_length (x ∷ xs) [] h = absurd h
same_length (x ∷ xs) (y ∷ ys) h = ap suc (same_length xs ys h.1)

split_last : (xs zs : List Account) (r : Account) → EachMayFollow xs (zs ++ r ∷ []) → (ys : List Account) × (x : Account) × (xs ≡ ys ++ x ∷ []) × MayFollow x r × EachMayFollow ys zs
split_last [] [] r h = absurd h
split_last [] (z ∷ zs) r h = absurd h
split_last (x ∷ []) [] r h = ([], x, refl, h.0, tt)
split_last (x ∷ y ∷ xs) [] r h = absurd h.1
split_last (x ∷ xs) (z ∷ zs) r h = let k = split_last xs zs r h.1 in (x ∷ k.0, k.1, ap (λ (l : List Account). x ∷ l) k.2, k.3, (h.0, k.4))

pub none_left : (xs : List Account) → length xs ≡ 0 → xs ≡ []
none_left [] e = refl
none_left (x ∷ xs) e = absurd cc

pub starts : (firsts laters : List Account) → EachMayFollow firsts laters → Following firsts laters firsts laters
starts firsts laters may = record {
  xs = firsts;
  ys = [];
  ws = [];
  all = sym (append-nil firsts);
  every = sym (append-nil laters);
  is = sym (append-nil firsts);
  may = may;
}

pub ends : (firsts laters now : List Account) → Following firsts laters now [] → now ≡ all_followed firsts laters
ends firsts laters now f = none f.xs f.ys f.ws firsts laters now f.may f.all f.every f.is where
  none : (xs ys ws firsts laters now : List Account) → EachMayFollow xs [] → firsts ≡ xs ++ ys → laters ≡ ws → now ≡ xs ++ all_followed ys ws → now ≡ all_followed firsts laters
  none [] ys ws firsts laters now h a e i = i ∙ (λ j. all_followed (sym a j) (sym e j))
  none (x ∷ xs) ys ws firsts laters now h a e i = absurd h

at_end : (xs ys : List Account) (x d : Account) → get_or (xs ++ x ∷ ys) (length xs) d ≡ x
at_end [] ys x d = refl
at_end (y ∷ xs) ys x d = at_end xs ys x d

set_end : (xs ys : List Account) (x y : Account) → set (xs ++ x ∷ ys) (length xs) y ≡ xs ++ y ∷ ys
set_end [] ys x y = refl
set_end (z ∷ xs) ys x y = ap (λ (l : List Account). z ∷ l) (set_end xs ys x y)

-- the last of those that are left is taken
module _ (firsts laters now left rest : List Account) (r : Account) (f : Following firsts laters now left) (taken : left ≡ rest ++ r ∷ []) where
  last : (ys : List Account) × (x : Account) × (f.xs ≡ ys ++ x ∷ []) × MayFollow x r × EachMayFollow ys rest
  last = split_last f.xs rest r (subst (EachMayFollow f.xs) taken f.may)

  now_is : now ≡ last.0 ++ last.1 ∷ all_followed f.ys f.ws
  now_is = f.is ∙ (ap (λ (l : List Account). l ++ all_followed f.ys f.ws) last.2 ∙ append_assoc last.0 (last.1 ∷ []) (all_followed f.ys f.ws))

  place : length rest ≡ length last.0
  place = sym (same_length last.0 rest last.4)

  pub within : length rest < length now
  within = let e = ap length now_is ∙ length-append last.0 (last.1 ∷ all_followed f.ys f.ws) in let p = place in omega arith

  found : (d : Account) → get_or now (length rest) d ≡ last.1
  found d = (λ i. get_or (now_is i) (place i) d) ∙ at_end last.0 (all_followed f.ys f.ws) last.1 d

  pub may_follow : (d : Account) → MayFollow (get_or now (length rest) d) r
  may_follow d = subst (λ (x : Account). MayFollow x r) (sym (found d)) last.3

  pub goes_on : (d : Account) → Following firsts laters (set now (length rest) (followed (get_or now (length rest) d) r)) rest
  goes_on d = record {
    xs = last.0;
    ys = last.1 ∷ f.ys;
    ws = r ∷ f.ws;
    all = f.all ∙ (ap (λ (l : List Account). l ++ f.ys) last.2 ∙ append_assoc last.0 (last.1 ∷ []) f.ys);
    every = f.every ∙ (ap (λ (l : List Account). l ++ f.ws) taken ∙ append_assoc rest (r ∷ []) f.ws);
    is = (λ i. set (now_is i) (place i) (followed (found d i) r)) ∙ set_end last.0 (all_followed f.ys f.ws) last.1 (followed last.1 r);
    may = last.4;
  }
