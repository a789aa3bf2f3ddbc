-- The counts decide whether an event happened before another, and no event happened before itself.
use Rattle.std.proofs.Common.{◌≡◌, ℕ, ◌<◌, ◌≤◌, Bool, true, false, ◌&&◌, List, refl, sym, ◌∙◌, subst, inl, inr, ◌⊎◌, arith}
use Rattle.std.specs.Prelude.{◌==◌, nat_le}
use Rattle.std.proofs.lemmas.Bool.{and_parts, and_from, eq-eqb, eqb-true, leb-true, le-leb, false≢true}
use Rattle.sig_order.specs.declared.at.At.{At}
use Rattle.sig_order.specs.declared.counts.Rows.{Rows}
use Rattle.sig_order.specs.Happening.{is_there, stamp_of, HappenedBefore}
use Rattle.sig_order.specs.Counting.{count_at, IsCounted}
use Rattle.sig_order.specs.Told.{Told}
use Rattle.sig_order.proofs.Ats.{same_at}

module _ (told : Told) (rows : List Rows) (counted : IsCounted told.reports told.origins rows) (e f : At) where
  abbrev Before : Type 0
  Before = HappenedBefore told.reports told.origins e f

  -- the two are one event
  abbrev test : Bool
  test = (e.pid == f.pid) && (e.event == f.event)

  same : test ≡ true → e ≡ f
  same h =
      let parts : ((e.pid == f.pid) ≡ true) × ((e.event == f.event) ≡ true) = and_parts (e.pid == f.pid) (e.event == f.event) h in
      same_at e f (eqb-true e.pid f.pid parts.0) (eqb-true e.event f.event parts.1)

  itself : e ≡ f → test ≡ true
  itself h =
      subst (λ (z : At). ((e.pid == z.pid) && (e.event == z.event)) ≡ true) h
      (and_from (e.pid == e.pid) (e.event == e.event) (eq-eqb e.pid e.pid refl) (eq-eqb e.event e.event refl))

  pub never : test ≡ true → Before → ⊥
  never h b = omega (arith, counted.stamps e e (subst (λ (z : At). HappenedBefore told.reports told.origins e z) (sym (same h)) b))

  module _ (first : is_there told.reports e ≡ true) (second : is_there told.reports f ≡ true) (apart : test ≡ false) (n : ℕ) (is : n ≡ count_at rows f e.pid) where
    pub then_before : nat_le e.event n ≡ true → Before
    then_before h = by ((counted.counts e f first second).0 (let le : e.event ≤ n = leb-true e.event n h in omega (arith, le, is)))
      where
        by : (e ≡ f) ⊎ Before → Before
        by (inl s) = absurd (false≢true (sym apart ∙ itself s))
        by (inr b) = b

    pub before_then : Before → nat_le e.event n ≡ true
    before_then b = le-leb e.event n (let le : e.event ≤ count_at rows f e.pid = (counted.counts e f first second).1 (inr b) in omega (arith, le, is))

    pub then_lower : nat_le e.event n ≡ true → stamp_of told.reports e < stamp_of told.reports f
    then_lower h = counted.stamps e f (then_before h)
