-- The next numbers outside of the pids to which a process has sent.
use Rattle.std.proofs.Common.{◌≡◌, ◌≢◌, ℕ, ◌<◌, ◌≤◌, List, length, replicate, sym, subst, arith, ⊎_elim, get_or-set_other}
use Rattle.std.specs.Prelude.{slice_index, slice_set}
use Rattle.std.proofs.lemmas.Bool.{cases_lt}
use Rattle.std.proofs.lemmas.List.{get_or-replicate, length-replicate}
use Rattle.std.proofs.Math.ListN.{get_or-eq_default}
use Rattle.sig_process.specs.SentTo.{AreFirstOutside}

ones_low : (n p : ℕ) → slice_index (replicate n 1) p ≤ 1
ones_low n p = ⊎_elim
    (λ (lt : p < n). (let e : slice_index (replicate n 1) p ≡ 1 = get_or-replicate n p 1 0 lt in omega (arith, e)))
    (λ (ge : n ≤ p). (let e : slice_index (replicate n 1) p ≡ 0 = get_or-eq_default (replicate n 1) 0 (omega (arith, ge, length-replicate {A = ℕ} n 1)) in omega (arith, e)))
    (cases_lt p n)

-- nothing is sent yet
pub none_sent : (n : ℕ) (xs : List ℕ) → xs ≡ replicate n 1 → AreFirstOutside n 0 xs
none_sent n xs e = record {
  below = λ p lt. subst (λ (z : List ℕ). slice_index z p ≤ 1) (sym e) (ones_low n p);
  behind = λ p le. subst (λ (z : List ℕ). slice_index z p ≤ 1) (sym e) (ones_low n p);
}

-- one more is sent, to a process between wider pids
pub one_sent : (low high lower higher peer n : ℕ) (xs : List ℕ) → AreFirstOutside low high xs
    → lower ≤ low → lower ≤ peer → high ≤ higher → peer < higher → AreFirstOutside lower higher (slice_set xs peer n)
one_sent low high lower higher peer n xs f a b c d = record {
  below = λ p lt. (let apart : p ≢ peer = (λ e. omega (arith, e, lt, b)) in
      subst (λ (z : ℕ). z ≤ 1) (sym (get_or-set_other xs peer p n 0 apart)) (f.below p (omega (arith, lt, a))));
  behind = λ p le. (let apart : p ≢ peer = (λ e. omega (arith, e, le, d)) in
      subst (λ (z : ℕ). z ≤ 1) (sym (get_or-set_other xs peer p n 0 apart)) (f.behind p (omega (arith, le, c))));
}
