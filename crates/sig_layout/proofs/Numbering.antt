-- Numbers in runs of ones.
use Rattle.std.proofs.Common.{◌≡◌, ℕ, zero, suc, ◌+◌, ◌-◌, ◌<◌, ◌≤◌, List, [], ◌∷◌, ◌++◌, length, replicate, refl, sym, ap, ◌∙◌, arith, Some, None, drop, get_or}
use Rattle.std.specs.Prelude.{slice_get}
use Rattle.std.proofs.lemmas.List.{length-append, length-replicate}
use Rattle.std.proofs.Math.Seq.{drop-cons}
use Rattle.std.proofs.Math.ListN.{drop_of_length-le}
use Rattle.sig_layout.specs.declared.run.Run.{Run}
use Rattle.sig_layout.specs.Runs.{ones_before, listed}

ones_append : (n : ℕ) (xs ys : List ℕ) → ones_before n xs ++ ys ≡ ones_before n (xs ++ ys)
ones_append zero xs ys = refl
ones_append (suc n) xs ys = ap (λ (z : List ℕ). 1 ∷ z) (ones_append n xs ys)

ones_length : (n : ℕ) (xs : List ℕ) → length (ones_before n xs) ≡ n + length xs
ones_length zero xs = (let e : length xs ≡ 0 + length xs = omega arith in e)
ones_length (suc n) xs = (let e : suc (length (ones_before n xs)) ≡ suc n + length xs = omega (arith, ones_length n xs) in e)

-- a list of ones
pub all_ones : (n : ℕ) → ones_before n [] ≡ replicate n 1
all_ones zero = refl
all_ones (suc n) = ap (λ (z : List ℕ). 1 ∷ z) (all_ones n)

ones_twice : (n m : ℕ) (xs : List ℕ) → ones_before n (ones_before m xs) ≡ ones_before (n + m) xs
ones_twice zero m xs = (let e : m ≡ 0 + m = omega arith in ap (λ (k : ℕ). ones_before k xs) e)
ones_twice (suc n) m xs = ap (λ (z : List ℕ). 1 ∷ z) (ones_twice n m xs) ∙ (let e : suc (n + m) ≡ suc n + m = omega arith in ap (λ (k : ℕ). ones_before k xs) e)

-- more ones at the end
pub listed_ones : (rs : List Run) (ones more : ℕ) → listed rs (ones + more) ≡ listed rs ones ++ replicate more 1
listed_ones [] ones more =
    sym (ones_append ones [] (replicate more 1) ∙ ap (ones_before ones) (sym (all_ones more)) ∙ ones_twice ones more [])
listed_ones (r ∷ rs) ones more =
    ap (λ (z : List ℕ). ones_before r.ones (r.number ∷ z)) (listed_ones rs ones more) ∙ sym (ones_append r.ones (r.number ∷ listed rs ones) (replicate more 1))

-- a number behind the ones
pub listed_number : (rs : List Run) (ones n : ℕ) → listed (rs ++ record { ones = ones; number = n } ∷ []) 0 ≡ listed rs ones ++ n ∷ []
listed_number [] ones n = sym (ones_append ones [] (n ∷ []))
listed_number (r ∷ rs) ones n =
    ap (λ (z : List ℕ). ones_before r.ones (r.number ∷ z)) (listed_number rs ones n) ∙ sym (ones_append r.ones (r.number ∷ listed rs ones) (n ∷ []))

-- ones alone
pub of_ones : (rs : List Run) (n : ℕ) → rs ≡ [] → listed rs n ≡ replicate n 1
of_ones rs n e = ap (λ (z : List Run). listed z n) e ∙ all_ones n

-- how many there are then
pub pushed_len : (old new : List ℕ) (n len : ℕ) → new ≡ old ++ n ∷ [] → len ≡ length old → len + 1 ≡ length new
pushed_len old new n len e same = (let l : length new ≡ length old + 1 = ap (λ (z : List ℕ). length z) e ∙ length-append old (n ∷ []) in omega (arith, l, same))

pub padded_len : (old new : List ℕ) (len to : ℕ) → new ≡ old ++ replicate (to - length old) 1 → len ≡ length old → length old ≤ to → to ≡ length new
padded_len old new len to e same le =
    (let l : length new ≡ length old + length {A = ℕ} (replicate (to - length old) 1) = ap (λ (z : List ℕ). length z) e ∙ length-append old (replicate (to - length old) 1) in
    let k : length {A = ℕ} (replicate (to - length old) 1) ≡ to - length old = length-replicate (to - length old) 1 in
    omega (arith, l, k, le))

-- the ones at the end are some of the numbers
pub ones_within : (rs : List Run) (ones : ℕ) → ones ≤ length (listed rs ones)
ones_within [] ones = omega (arith, ones_length ones [])
ones_within (r ∷ rs) ones =
    (let e : length (listed (r ∷ rs) ones) ≡ r.ones + suc (length (listed rs ones)) = ones_length r.ones (r.number ∷ listed rs ones) in
    omega (arith, e, ones_within rs ones))

-- among ones
pub among_ones : (n at : ℕ) (xs : List ℕ) → at < n → slice_get (ones_before n xs) at ≡ Some 1
among_ones zero at xs h = absurd (let f : ⊥ = omega (arith, h) in f)
among_ones (suc n) zero xs h = refl
among_ones (suc n) (suc at) xs h = among_ones n at xs (omega (arith, h))

-- and behind them
pub behind_ones : (n at left : ℕ) (xs : List ℕ) → at ≡ n + left → slice_get (ones_before n xs) at ≡ slice_get xs left
behind_ones zero at left xs h = (let e : at ≡ left = omega (arith, h) in ap (slice_get xs) e)
behind_ones (suc n) zero left xs h = absurd (let f : ⊥ = omega (arith, h) in f)
behind_ones (suc n) (suc at) left xs h = behind_ones n at left xs (omega (arith, h))

-- the run at this place
read_run : (rs : List Run) (at : ℕ) (r : Run) → at < length rs → r ≡ get_or rs at r → drop at rs ≡ r ∷ drop (at + 1) rs
read_run rs at r lt is = drop-cons rs at r lt ∙ ap (λ (z : Run). z ∷ drop (suc at) rs) (sym is)
    ∙ (let e : suc at ≡ at + 1 = omega arith in ap (λ (k : ℕ). r ∷ drop k rs) e)

module _ (rs : List Run) (ones at left : ℕ) where
  module _ (r : Run) (lt : at < length rs) (is : r ≡ get_or rs at r) where
    here : slice_get (listed (drop at rs) ones) left ≡ slice_get (ones_before r.ones (r.number ∷ listed (drop (at + 1) rs) ones)) left
    here = ap (λ (z : List Run). slice_get (listed z ones) left) (read_run rs at r lt is)

    pub in_run : left < r.ones → slice_get (listed (drop at rs) ones) left ≡ Some 1
    in_run h = here ∙ among_ones r.ones left (r.number ∷ listed (drop (at + 1) rs) ones) h

    pub at_number : left ≡ r.ones → slice_get (listed (drop at rs) ones) left ≡ Some r.number
    at_number h = here ∙ behind_ones r.ones left 0 (r.number ∷ listed (drop (at + 1) rs) ones) (omega (arith, h))

    pub past_run : r.ones < left → slice_get (listed (drop at rs) ones) left ≡ slice_get (listed (drop (at + 1) rs) ones) (left - r.ones - 1)
    past_run h = here ∙ behind_ones r.ones left (suc (left - r.ones - 1)) (r.number ∷ listed (drop (at + 1) rs) ones) (omega (arith, h))

  no_runs : length rs ≤ at → slice_get (listed (drop at rs) ones) left ≡ slice_get (ones_before ones []) left
  no_runs le = ap (λ (z : List Run). slice_get (listed z ones) left) (drop_of_length-le rs le)

  pub in_last : length rs ≤ at → left < ones → slice_get (listed (drop at rs) ones) left ≡ Some 1
  in_last le h = no_runs le ∙ among_ones ones left [] h

  pub past_last : length rs ≤ at → ones ≤ left → slice_get (listed (drop at rs) ones) left ≡ None
  past_last le h = no_runs le ∙ behind_ones ones left (left - ones) [] (omega (arith, h))
