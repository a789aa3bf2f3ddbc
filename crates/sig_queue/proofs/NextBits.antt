-- From one buffer whose bit is set to the next: those between have none, so nothing is to be done for them.
use Rattle.std.proofs.Common.{◌≡◌, ◌≢◌, ◌==◌, ℕ, zero, suc, ◌+◌, ◌-◌, ◌<◌, ◌≤◌, ◌/◌, ◌%◌, ◌^◌, true, false, ap, sym, ◌∙◌, subst, arith, w64}
use mathlib.Core.Logic.{dite}
use native.Mathlib.Decide.{dec_lt}
use Rattle.std.specs.Int.{bit_at, trailing_zeros}
use Rattle.std.proofs.lemmas.Nat.{shr-shr, shr_le}
use Rattle.std.proofs.lemmas.Nat.Bits.{bit_at-zero, bit_at_above, bit_at-trailing_zeros}
use Rattle.sig_layout.specs.declared.knows.Knows.{Knows}
use Rattle.sig_layout.specs.Views.{filled_at}
use Rattle.sig_queue.specs.declared.fetch_find.Caught.{Caught}
use Rattle.sig_queue.specs.Tied.{Held}
use Rattle.sig_queue.specs.Fetching.{Finding, Standing}
use Rattle.sig_queue.proofs.Fetches.{finding_past, standing_past}

-- no buffer from k on and below m has its bit
abbrev pub NoneFrom : ℕ → ℕ → ℕ → Type 0
NoneFrom n k m = (c : ℕ) → k ≤ c → c < m → filled_at n c ≡ false

bit_shifted : (n a c : ℕ) → a ≤ c → bit_at n c ≡ bit_at (n / 2 ^ a) (c - a)
bit_shifted n a c h = let e : c ≡ a + (c - a) = omega arith in ap (bit_at n) e ∙ ap (λ (x : ℕ). x % 2) (sym (shr-shr n a (c - a)))

pub none_left : (n a m : ℕ) → n / 2 ^ a ≡ 0 → NoneFrom n a m
none_left n a m e c h l = ap (λ (b : ℕ). b == 1) (bit_shifted n a c h ∙ ap (λ (x : ℕ). bit_at x (c - a)) e ∙ bit_at-zero (c - a))

positive : (x : ℕ) → x ≢ 0 → 0 < x
positive x h = omega arith

less_still : (x n m : ℕ) → x ≤ n → n < m → x < m
less_still x n m h l = omega arith

-- the lowest bit of what a shift leaves
module _ (n a : ℕ) (fits : n < 2 ^ 64) (some : n / 2 ^ a ≢ 0) where
  abbrev lowest : ℕ
  lowest = trailing_zeros w64 (n / 2 ^ a)

  found : (lowest < 64) × (bit_at (n / 2 ^ a) lowest ≡ 1) × ((i : ℕ) → i < lowest → bit_at (n / 2 ^ a) i ≡ 0)
  found = bit_at-trailing_zeros w64 (n / 2 ^ a) (positive (n / 2 ^ a) some) (less_still (n / 2 ^ a) n (2 ^ 64) (shr_le n a) fits)

  one_there : bit_at n (a + lowest) ≡ 1
  one_there = let e : a + lowest - a ≡ lowest = omega arith in bit_shifted n a (a + lowest) (omega arith) ∙ (ap (bit_at (n / 2 ^ a)) e ∙ found.1)

  pub next_set : filled_at n (a + lowest) ≡ true
  next_set = ap (λ (b : ℕ). b == 1) one_there

  below_all : a + lowest < 64
  below_all = dite (dec_lt (a + lowest) 64) (λ l. l) (λ h. let none : bit_at n (a + lowest) ≡ 0 = bit_at_above n 64 (a + lowest) fits (omega arith) in let clash : 0 ≡ 1 = sym none ∙ one_there in absurd (omega (arith, clash)))

  pub next_within : (a ≤ a + lowest) × (a + lowest ≤ 64)
  next_within = let b = below_all in (omega arith, omega (arith, b))

  pub next_lowest : NoneFrom n a (a + lowest)
  next_lowest c h l = ap (λ (b : ℕ). b == 1) (bit_shifted n a c h ∙ found.2 (c - a) (omega arith))

-- the buffers that are left to be looked at end with the last one
pub at_end : (k : ℕ) → k ≤ 64 → 64 ≤ k → k ≡ 64
at_end k h l = omega arith

module _ (v : Knows) (n : ℕ) (me : Held) (z : Caught) where
  finding_on : (k d : ℕ) → k + d ≤ 64 → Finding v n k me z → NoneFrom n k (k + d) → Finding v n (k + d) me z
  finding_on k zero low f none = let e : k ≡ k + 0 = omega arith in subst (λ (j : ℕ). Finding v n j me z) e f
  finding_on k (suc d) low f none = let e : k + 1 + d ≡ k + suc d = omega arith in
      subst (λ (j : ℕ). Finding v n j me z) e (finding_on (k + 1) d (omega arith) (finding_past v n k me z f (omega arith) (none k (omega arith) (omega arith))) (λ c h l. none c (omega arith) (omega arith)))

  pub finding_to : (k m : ℕ) → k ≤ m → m ≤ 64 → NoneFrom n k m → Finding v n k me z → Finding v n m me z
  finding_to k m h low none f = let e : k + (m - k) ≡ m = omega arith in
      subst (λ (j : ℕ). Finding v n j me z) e (finding_on k (m - k) (omega arith) f (λ c g l. none c g (omega arith)))

module _ (held : ℕ) (me : Held) (count : ℕ) where
  standing_on : (k d : ℕ) → k + d ≤ 64 → Standing held k me count → NoneFrom held k (k + d) → Standing held (k + d) me count
  standing_on k zero low s none = let e : k ≡ k + 0 = omega arith in subst (λ (j : ℕ). Standing held j me count) e s
  standing_on k (suc d) low s none = let e : k + 1 + d ≡ k + suc d = omega arith in
      subst (λ (j : ℕ). Standing held j me count) e (standing_on (k + 1) d (omega arith) (standing_past held k me count s (omega arith) (none k (omega arith) (omega arith))) (λ c h l. none c (omega arith) (omega arith)))

  pub standing_to : (k m : ℕ) → k ≤ m → m ≤ 64 → NoneFrom held k m → Standing held k me count → Standing held m me count
  standing_to k m h low none s = let e : k + (m - k) ≡ m = omega arith in
      subst (λ (j : ℕ). Standing held j me count) e (standing_on k (m - k) (omega arith) s (λ c g l. none c g (omega arith)))
