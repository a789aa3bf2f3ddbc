-- The counts so far are right, and stay so with those of the next event.
use Rattle.std.proofs.Common.{◌≡◌, ◌≢◌, ℕ, zero, suc, ◌+◌, ◌-◌, ◌<◌, ◌≤◌, max, true, List, refl, sym, ap, subst, ◌∙◌, inl, inr, ◌⊎◌, arith}
use Rattle.std.proofs.lemmas.Bool.{cases_eq, cases_lt}
use Rattle.sig_model.specs.declared.origin.Origin.{Origin}
use Rattle.sig_record.specs.declared.report.Report.{Report}
use Rattle.sig_order.specs.declared.at.At.{At}
use Rattle.sig_order.specs.Happening.{IsSentTo, IsNext, IsStep, Chain, HappenedBefore, is_there}
use Rattle.sig_order.specs.Counting.{last_of}
use Rattle.sig_order.proofs.Ats.{same_at}
use Rattle.sig_order.proofs.Chains.{then_step, one_step}

-- how many events of each process have counts, and for each event how many events of each process are at it or before it
pub record Counts : Type 0 where
  pub many : ℕ → ℕ
  pub count : At → ℕ → ℕ

-- the event has counts
abbrev pub Done : Counts → At → Type 0
Done c a = (0 < a.event) × (a.event ≤ c.many a.pid)

-- The counts of the event a are new, the next one of its process: of each other process the greater of those of the event before it and
-- of the event `sender`.
pub record MoreCounts (old new : Counts) (a sender : At) : Type 0 where
  pub here : new.many a.pid ≡ old.many a.pid + 1
  pub others : (q : ℕ) → q ≢ a.pid → new.many q ≡ old.many q
  pub stays : (f : At) (q : ℕ) → Done old f → new.count f q ≡ old.count f q
  pub own : new.count a a.pid ≡ a.event
  pub newest : (q : ℕ) → q ≢ a.pid → new.count a q ≡ max (old.count (last_of a) q) (old.count sender q)

module _ (reports : List Report) (origins : List Origin) where
  pub record IsRight (c : Counts) : Type 0 where
    -- an event that counts something has counts, and one that has counts is there
    pub only : (f : At) (q : ℕ) → 0 < c.count f q → Done c f
    pub known : (f : At) → Done c f → is_there reports f ≡ true
    -- none counts an event that has no counts
    pub within : (f : At) (q : ℕ) → Done c f → c.count f q ≤ c.many q
    -- of its own process an event counts all up to itself
    pub own : (f : At) → Done c f → c.count f f.pid ≡ f.event
    -- what is counted is the event itself or happened before it
    pub sound : (e f : At) → Done c f → 0 < e.event → e.event ≤ c.count f e.pid → (e ≡ f) ⊎ HappenedBefore reports origins e f
    -- where a step leads to an event, that counts all that was counted
    pub grows : (g f : At) → Done c f → IsStep reports origins g f → Done c g × ((q : ℕ) → c.count g q ≤ c.count f q)

  module _ (c : Counts) (right : IsRight c) where
    -- along a chain the counts don't fall
    chain_grows : (n : ℕ) (e f : At) → Chain reports origins n e f → Done c f → Done c e × ((q : ℕ) → c.count e q ≤ c.count f q)
    chain_grows zero e f h d = right.grows e f d h
    chain_grows (suc n) e f h d =
        let rest : Done c h.0 × ((q : ℕ) → c.count h.0 q ≤ c.count f q) = chain_grows n h.0 f h.2 d in
        let first : Done c e × ((q : ℕ) → c.count e q ≤ c.count h.0 q) = right.grows e h.0 rest.0 h.1 in
        (first.0, λ q. omega (arith, first.1 q, rest.1 q))

    pub before_counts : (e f : At) → HappenedBefore reports origins e f → Done c f → e.event ≤ c.count f e.pid
    before_counts e f h d =
        let grown : Done c e × ((q : ℕ) → c.count e q ≤ c.count f q) = chain_grows h.0 e f h.1 d in
        omega (arith, grown.1 e.pid, right.own e grown.0)

    -- an event that has no counts counts nothing
    pub at_most : (f : At) (q : ℕ) → c.count f q ≤ c.many q
    at_most f q = by (cases_eq (c.count f q) 0)
      where
        by : (c.count f q ≡ 0) ⊎ (c.count f q ≡ 0 → ⊥) → c.count f q ≤ c.many q
        by (inl z) = omega (arith, z)
        by (inr n) = right.within f q (right.only f q (omega (arith, n)))

    -- the counts of a process don't fall
    own_grows : (n : ℕ) (f g : At) (q : ℕ) → f.pid ≡ g.pid → f.event + n ≡ g.event → Done c f → Done c g → c.count f q ≤ c.count g q
    own_grows zero f g q p e d k =
        let same : c.count f q ≡ c.count g q = ap (λ (z : At). c.count z q) (same_at f g p (omega (arith, e))) in
        omega (arith, same)
    own_grows (suc n) f g q p e d k =
        let mid : At = record { pid = f.pid; event = f.event + 1 } in
        let most : g.event ≤ c.many f.pid = subst (λ z. g.event ≤ c.many z) (sym p) k.1 in
        let ready : Done c mid = (omega arith, omega (arith, most, e)) in
        let step : IsStep reports origins f mid = record { first = right.known f d; second = right.known mid ready; leads = inl (refl, refl) } in
        let first : c.count f q ≤ c.count mid q = (right.grows f mid ready step).1 q in
        let rest : c.count mid q ≤ c.count g q = own_grows n mid g q p (omega (arith, e)) ready k in
        omega (arith, first, rest)

  module _ (old new : Counts) (right : IsRight old) (a sender : At) (next : a.event ≡ old.many a.pid + 1)
      (there : is_there reports a ≡ true) (more : MoreCounts old new a sender) (only : (f : At) (q : ℕ) → 0 < new.count f q → Done new f)
      (ready : (g : At) → IsStep reports origins g a → Done old g)
      (known : (g : At) → IsSentTo reports origins g a → (g.pid ≡ a.pid) ⊎ (g ≡ sender))
      (says : Done old sender → IsSentTo reports origins sender a) where
    -- the event before it in its process
    last_done : 0 < a.event - 1 → Done old (last_of a)
    last_done h = (h, omega (arith, next))

    last_step : Done old (last_of a) → IsStep reports origins (last_of a) a
    last_step d = record { first = right.known (last_of a) d; second = there; leads = inl (refl, let e : a.event ≡ a.event - 1 + 1 = omega (arith, next) in e) }

    sender_step : Done old sender → IsStep reports origins sender a
    sender_step d = record { first = right.known sender d; second = there; leads = inr (says d) }

    -- what one of the two counts happened before the new event
    from_step : (e g : At) → Done old g → IsStep reports origins g a → 0 < e.event → e.event ≤ old.count g e.pid → HappenedBefore reports origins e a
    from_step e g d step h le = by (right.sound e g d h le)
      where
        by : (e ≡ g) ⊎ HappenedBefore reports origins e g → HappenedBefore reports origins e a
        by (inl same) = one_step reports origins e a (subst (λ (z : At). IsStep reports origins z a) (sym same) step)
        by (inr before) = then_step reports origins e g a before step

    abbrev Sound : At → Type 0
    Sound e = (e ≡ a) ⊎ HappenedBefore reports origins e a

    sound_new : (e : At) → 0 < e.event → e.event ≤ new.count a e.pid → Sound e
    sound_new e h le = by (cases_eq e.pid a.pid)
      where
        through : max (old.count (last_of a) e.pid) (old.count sender e.pid) ≡ new.count a e.pid → (old.count (last_of a) e.pid < e.event) ⊎ (e.event ≤ old.count (last_of a) e.pid) → Sound e
        through m (inr first) = let d : Done old (last_of a) = right.only (last_of a) e.pid (omega (arith, h, first)) in inr (from_step e (last_of a) d (last_step d) h first)
        through m (inl past) =
            let second : e.event ≤ old.count sender e.pid = omega (arith, m, le, past) in
            let d : Done old sender = right.only sender e.pid (omega (arith, h, second)) in
            inr (from_step e sender d (sender_step d) h second)

        in_own : e.pid ≡ a.pid → e.event ≤ a.event → (e.event ≡ a.event) ⊎ (e.event ≡ a.event → ⊥) → Sound e
        in_own p most (inl same) = inl (same_at e a p same)
        in_own p most (inr other) =
            let d : Done old (last_of a) = last_done (omega (arith, most, other, h)) in
            let last : old.count (last_of a) a.pid ≡ a.event - 1 = right.own (last_of a) d in
            inr (from_step e (last_of a) d (last_step d) h (subst (λ q. e.event ≤ old.count (last_of a) q) (sym p) (omega (arith, last, most, other))))

        by : (e.pid ≡ a.pid) ⊎ (e.pid ≡ a.pid → ⊥) → Sound e
        by (inl p) =
            let own : new.count a e.pid ≡ a.event = subst (λ q. new.count a q ≡ a.event) (sym p) more.own in
            in_own p (omega (arith, le, own)) (cases_eq e.event a.event)
        by (inr n) = through (sym (more.newest e.pid n)) (cases_lt (old.count (last_of a) e.pid) e.event)

    -- a step leads to it from its own process, or from the event that sent the signal
    grows_other : (g : At) (q : ℕ) → q ≢ a.pid → IsStep reports origins g a → old.count g q ≤ max (old.count (last_of a) q) (old.count sender q)
    grows_other g q n step = by step.leads
      where
        done : Done old g
        done = ready g step

        of_own : g.pid ≡ a.pid → old.count g q ≤ old.count (last_of a) q
        of_own p =
            let most : g.event ≤ old.many a.pid = subst (λ z. g.event ≤ old.many z) p done.1 in
            own_grows old right (a.event - 1 - g.event) g (last_of a) q p (omega (arith, most, next)) done (last_done (omega (arith, done.0, most, next)))

        sent : (g.pid ≡ a.pid) ⊎ (g ≡ sender) → old.count g q ≤ max (old.count (last_of a) q) (old.count sender q)
        sent (inl p) = omega (arith, of_own p)
        sent (inr e) = let same : old.count g q ≡ old.count sender q = ap (λ (z : At). old.count z q) e in omega (arith, same)

        by : IsNext g a ⊎ IsSentTo reports origins g a → old.count g q ≤ max (old.count (last_of a) q) (old.count sender q)
        by (inl h) = omega (arith, of_own (sym h.0))
        by (inr s) = sent (known g s)

    grows_new : (g : At) → IsStep reports origins g a → (q : ℕ) → new.count g q ≤ new.count a q
    grows_new g step q = by (cases_eq q a.pid)
      where
        stays : new.count g q ≡ old.count g q
        stays = more.stays g q (ready g step)

        by : (q ≡ a.pid) ⊎ (q ≡ a.pid → ⊥) → new.count g q ≤ new.count a q
        by (inl p) =
            let own : new.count a q ≡ a.event = subst (λ z. new.count a z ≡ a.event) (sym p) more.own in
            let most : old.count g q ≤ old.many a.pid = subst (λ z. old.count g q ≤ old.many z) p (right.within g q (ready g step)) in
            omega (arith, stays, own, most, next)
        by (inr n) = omega (arith, stays, more.newest q n, grows_other g q n step)

    -- how many there are of a process now
    fewer : (q : ℕ) → old.many q ≤ new.many q
    fewer q = by (cases_eq q a.pid)
      where
        by : (q ≡ a.pid) ⊎ (q ≡ a.pid → ⊥) → old.many q ≤ new.many q
        by (inl p) = subst (λ z. old.many z ≤ new.many z) (sym p) (omega (arith, more.here))
        by (inr n) = omega (arith, more.others q n)

    within_new : (q : ℕ) → new.count a q ≤ new.many q
    within_new q = by (cases_eq q a.pid)
      where
        by : (q ≡ a.pid) ⊎ (q ≡ a.pid → ⊥) → new.count a q ≤ new.many q
        by (inl p) = subst (λ z. new.count a z ≤ new.many z) (sym p) (omega (arith, more.own, next, more.here))
        by (inr n) = omega (arith, more.newest q n, at_most old right (last_of a) q, at_most old right sender q, more.others q n)

    stays_done : (f : At) → Done old f → Done new f
    stays_done f d = (d.0, omega (arith, d.1, fewer f.pid))

    -- an event that has counts now had them, or is the new one
    done_before : (f : At) → Done new f → Done old f ⊎ (f ≡ a)
    done_before f d = by (cases_eq f.pid a.pid)
      where
        by : (f.pid ≡ a.pid) ⊎ (f.pid ≡ a.pid → ⊥) → Done old f ⊎ (f ≡ a)
        by (inl e) = among (cases_lt (old.many a.pid) f.event)
          where
            most : f.event ≤ new.many a.pid
            most = subst (λ p. f.event ≤ new.many p) e d.1

            among : (old.many a.pid < f.event) ⊎ (f.event ≤ old.many a.pid) → Done old f ⊎ (f ≡ a)
            among (inl gt) = inr (same_at f a e (omega (arith, gt, most, next, more.here)))
            among (inr le) = inl (d.0, subst (λ p. f.event ≤ old.many p) (sym e) le)
        by (inr n) = inl (d.0, omega (arith, d.1, more.others f.pid n))

    -- what is shown of an event that had counts, and of the new one, is shown of each
    each : (P : At → Type 0) → ((f : At) → Done old f → P f) → P a → (f : At) → Done new f → P f
    each P before now f d = by (done_before f d)
      where
        by : Done old f ⊎ (f ≡ a) → P f
        by (inl h) = before f h
        by (inr same) = subst P (sym same) now

    pub right_more : IsRight new
    right_more = record {
      only = only;
      known = each (λ f. is_there reports f ≡ true) right.known there;
      within = λ f q d. each (λ g. new.count g q ≤ new.many q) (λ g e. omega (arith, more.stays g q e, right.within g q e, fewer q)) (within_new q) f d;
      own = each (λ f. new.count f f.pid ≡ f.event) (λ f d. more.stays f f.pid d ∙ right.own f d) more.own;
      sound = λ e f d h. each (λ g. e.event ≤ new.count g e.pid → (e ≡ g) ⊎ HappenedBefore reports origins e g)
          (λ g k le. right.sound e g k h (omega (arith, le, more.stays g e.pid k))) (sound_new e h) f d;
      grows = λ g f d. each (λ z. IsStep reports origins g z → Done new g × ((q : ℕ) → new.count g q ≤ new.count z q))
          (λ z k step.
          let before : Done old g × ((q : ℕ) → old.count g q ≤ old.count z q) = right.grows g z k step in
          (stays_done g before.0, λ q. omega (arith, more.stays g q before.0, more.stays z q k, before.1 q)))
          (λ step. (stays_done g (ready g step), grows_new g step)) f d;
    }
