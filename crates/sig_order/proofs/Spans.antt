-- The events of a process that are concurrent with a given one are those that it doesn't count, up to the last one that doesn't count it.
use Rattle.std.proofs.Common.{◌≡◌, ℕ, zero, suc, ◌+◌, ◌-◌, ◌<◌, ◌≤◌, true, List, Option, Some, None, refl, sym, subst, inl, inr, ◌⊎◌, arith}
use Rattle.std.proofs.lemmas.Bool.{cases_lt}
use Rattle.sig_order.specs.declared.at.At.{At}
use Rattle.sig_order.specs.declared.counts.Rows.{Rows}
use Rattle.sig_order.specs.declared.span.Span.{Span}
use Rattle.sig_order.specs.Happening.{is_there, IsStep, HappenedBefore}
use Rattle.sig_order.specs.Counting.{counted_of, count_at, IsCounted}
use Rattle.sig_order.specs.Concurrent.{numbered, IsBeside, IsRange}
use Rattle.sig_order.specs.Searching.{IsLastWithout, IsSpan}
use Rattle.sig_order.specs.Told.{Told}
use Rattle.sig_order.proofs.Chains.{one_step, then_step}

module _ (told : Told) (rows : List Rows) (counted : IsCounted told.reports told.origins rows) (e : At) (there : is_there told.reports e ≡ true) (pid : ℕ) where
  -- the event of the process with this number is there, happened before e, happened after it, and counts it
  abbrev There : ℕ → Type 0
  There n = is_there told.reports (numbered pid n) ≡ true

  abbrev Before : ℕ → Type 0
  Before n = HappenedBefore told.reports told.origins (numbered pid n) e

  abbrev After : ℕ → Type 0
  After n = HappenedBefore told.reports told.origins e (numbered pid n)

  abbrev Counts : ℕ → Type 0
  Counts n = e.event ≤ count_at rows (numbered pid n) e.pid

  is_one : (n : ℕ) → 0 < n → n ≤ counted_of rows pid → There n
  is_one n h le = counted.only (numbered pid n) (h, le)

  -- one that counts e is followed by one that does
  next_counts : (n : ℕ) → There n → There (n + 1) → Counts n → Counts (n + 1)
  next_counts n first second h = (counted.counts e (numbered pid (n + 1)) there second).1 (inr (by ((counted.counts e (numbered pid n) there first).0 h)))
    where
      step : IsStep told.reports told.origins (numbered pid n) (numbered pid (n + 1))
      step = record { first = first; second = second; leads = inl (refl, refl) }

      by : (e ≡ numbered pid n) ⊎ After n → After (n + 1)
      by (inl same) =
          one_step told.reports told.origins e (numbered pid (n + 1))
          (record { first = there; second = second; leads = inl ((λ i. (sym same i).pid), (λ i. (sym same i).event + 1)) })
      by (inr after) = then_step told.reports told.origins e (numbered pid n) (numbered pid (n + 1)) after step

  later_counts : (k n m : ℕ) → n + k ≡ m → 0 < n → m ≤ counted_of rows pid → Counts n → Counts m
  later_counts zero n m is h le c = let same : n ≡ m = omega (arith, is) in subst Counts same c
  later_counts (suc k) n m is h le c =
      later_counts k (n + 1) m (omega (arith, is)) (omega arith) le
      (next_counts n (is_one n h (omega (arith, is, le))) (is_one (n + 1) (omega arith) (omega (arith, is, le))) c)

  module _ (last : ℕ) (is : IsLastWithout rows e pid last) where
    counts_behind : (n : ℕ) → last < n → n ≤ counted_of rows pid → Counts n
    counts_behind n h le = later_counts (n - last - 1) (last + 1) n (omega (arith, h)) (omega arith) le (is.next (omega (arith, h, le)))

    none_up_to : (n : ℕ) → 0 < n → n ≤ last → Counts n → ⊥
    none_up_to n h le c =
        let at_last : Counts last = later_counts (last - n) n last (omega (arith, le)) h is.within c in
        let without : count_at rows (numbered pid last) e.pid < e.event = is.without (omega (arith, h, le)) in
        omega (arith, at_last, without)

    -- an event that is concurrent with e is behind those that e counts, and not behind the last one that doesn't count e
    pub then_within : (n : ℕ) → IsBeside told.reports told.origins e pid n → (count_at rows e pid < n) × (n ≤ last)
    then_within n b = (above (cases_lt (count_at rows e pid) n), up_to (cases_lt last n))
      where
        not_at : (numbered pid n ≡ e) ⊎ Before n → ⊥
        not_at (inl same) = b.1.two (sym same)
        not_at (inr before) = b.1.not_after before

        above : (count_at rows e pid < n) ⊎ (n ≤ count_at rows e pid) → count_at rows e pid < n
        above (inl h) = h
        above (inr le) = absurd (not_at ((counted.counts (numbered pid n) e b.0 there).0 le))

        not_behind : (e ≡ numbered pid n) ⊎ After n → ⊥
        not_behind (inl same) = b.1.two same
        not_behind (inr after) = b.1.not_before after

        up_to : (last < n) ⊎ (n ≤ last) → n ≤ last
        up_to (inl h) = absurd (not_behind ((counted.counts e (numbered pid n) there b.0).0 (counts_behind n h (counted.done (numbered pid n) b.0).1)))
        up_to (inr le) = le

    pub within_then : (n : ℕ) → count_at rows e pid < n → n ≤ last → IsBeside told.reports told.origins e pid n
    within_then n h le = (here, record { two = λ same. unknown (inl same); not_before = λ after. unknown (inr after); not_after = λ before. past before })
      where
        here : There n
        here = is_one n (omega (arith, h)) (omega (arith, le, is.within))

        unknown : (e ≡ numbered pid n) ⊎ After n → ⊥
        unknown w = none_up_to n (omega (arith, h)) le ((counted.counts e (numbered pid n) there here).1 w)

        past : Before n → ⊥
        past before =
            let known : n ≤ count_at rows e pid = (counted.counts (numbered pid n) e here there).1 (inr before) in
            omega (arith, known, h)

  pub is_range : (o : Option Span) → IsSpan rows e pid o → IsRange told.reports told.origins e pid o
  is_range None h = λ n b. let w : (count_at rows e pid < n) × (n ≤ h.0) = then_within h.0 h.1 n b in omega (arith, w.0, w.1, h.2)
  is_range (Some span) h = (
    h.2,
    λ n. (
      (λ b. let w : (count_at rows e pid < n) × (n ≤ span.last) = then_within span.last h.0 n b in (omega (arith, w.0, h.1), w.1)),
      (λ w. within_then span.last h.0 n (omega (arith, w.0, h.1)) w.1),
    ),
  )
