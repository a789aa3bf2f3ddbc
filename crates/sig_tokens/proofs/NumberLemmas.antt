-- Numbers, digit by digit.
use Rattle.std.proofs.Common.{◌≡◌, ℕ, ◌+◌, ◌-◌, ◌*◌, ◌<◌, ◌≤◌, List, [], ◌∷◌, length, get_or, drop, Some, None, true, false, nat_le, refl, sym, ◌∙◌, ap, subst, arith}
use Rattle.std.proofs.lemmas.Bool.Decides.{nat_tests}
use Rattle.std.proofs.lemmas.List.{drop_more, drop_all}
use Rattle.sig_tokens.specs.Numbers.{number_after, up_to}

-- further digits don't make a number smaller
number_grows : (n : ℕ) (ds : List ℕ) → n ≤ number_after n ds
unfolding number_after
number_grows n [] = omega arith
number_grows n (d ∷ ds) = let h = number_grows (n * 10 + (d - 48)) ds in omega (arith, h)

step : (n : ℕ) (ds : List ℕ) (i : ℕ) → i < length ds → number_after n (drop i ds) ≡ number_after (n * 10 + (get_or ds i 0 - 48)) (drop (i + 1) ds)
unfolding number_after
step n ds i h = ap (λ (xs : List ℕ). number_after n xs) (drop_more ds i 0 h)

-- one more digit
pub number_step : (n : ℕ) (ds : List ℕ) (i v : ℕ) → i < length ds → number_after n (drop i ds) ≡ v → number_after (n * 10 + (get_or ds i 0 - 48)) (drop (i + 1) ds) ≡ v
number_step n ds i v h e = sym (step n ds i h) ∙ e

-- too large already
pub number_over : (most n : ℕ) (ds : List ℕ) (i v : ℕ) → i < length ds → number_after n (drop i ds) ≡ v → most < n * 10 + (get_or ds i 0 - 48) → up_to most v ≡ None
number_over most n ds i v h e over =
    let grows = number_grows (n * 10 + (get_or ds i 0 - 48)) (drop (i + 1) ds) in
    let same = number_step n ds i v h e in
    let no : nat_le v most ≡ false = grind (arith, nat_tests) in
    rw no refl

-- no digit is left
pub number_ends : (most n : ℕ) (ds : List ℕ) (i v : ℕ) → length ds ≤ i → number_after n (drop i ds) ≡ v → n ≤ most → up_to most v ≡ Some n
unfolding number_after
number_ends most n ds i v h e le =
    let same : n ≡ v = ap (λ (xs : List ℕ). number_after n xs) (sym (drop_all i ds h)) ∙ e in
    let yes : nat_le n most ≡ true = grind (arith, nat_tests) in
    subst (λ (w : ℕ). up_to most w ≡ Some n) same (rw yes refl)
