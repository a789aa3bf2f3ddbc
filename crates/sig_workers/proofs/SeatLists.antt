-- Lists of signals and of items, sender by sender, and their numbers.
use Rattle.std.proofs.Common.{◌≡◌, ℕ, suc, ◌+◌, List, [], ◌∷◌, ◌++◌, length, refl, sym, ap, ◌∙◌, arith}
use Rattle.std.specs.Prelude.{◌==◌, if◌then◌else◌}
use Rattle.sig_kinds.specs.declared.signal.Signal.{Signal}
use Rattle.sig_kinds.specs.Counting.{IsCounting}
use Rattle.sig_model.specs.Accounts.{coming_from}
use Rattle.sig_layout.specs.declared.item.Item.{Item}
use Rattle.sig_layout.specs.Sent.{sender, putter, of, signals}
use Rattle.sig_layout.proofs.Sending.{of_signals}

-- both words for the signals of one sender
pub of_is : (s : ℕ) (xs : List Signal) → of sender s xs ≡ coming_from s xs
of_is s [] = refl
of_is s (x ∷ xs) = ap (λ z. if (x.from.0 == s) then x ∷ z else z) (of_is s xs)

length_signals : (xs : List Item) → length (signals xs) ≡ length xs
length_signals [] = refl
length_signals (x ∷ xs) = ap suc (length_signals xs)

pub items_length : (s : ℕ) (xs : List Item) → length (of putter s xs) ≡ length (coming_from s (signals xs))
items_length s xs = sym (length_signals (of putter s xs)) ∙ ap (λ (z : List Signal). length z) (sym (of_signals s xs) ∙ of_is s (signals xs))

-- the number of the first signal behind those of a list
pub counting-next : (n : ℕ) (xs ys : List Signal) (x : Signal) → IsCounting n (xs ++ x ∷ ys) → x.number ≡ n + length xs
counting-next n [] ys x h = h.0 ∙ (let e : n ≡ n + 0 = omega arith in e)
counting-next n (z ∷ xs) ys x h = counting-next (n + 1) xs ys x h.1 ∙ (let e : n + 1 + length xs ≡ n + length (z ∷ xs) = omega arith in e)
