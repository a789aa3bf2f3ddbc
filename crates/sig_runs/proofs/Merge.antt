-- A lawful crew's events in the order of their stamps are a run of the machine.
--
-- The induction goes along the list. What it carries is `Remaining`: each process goes on, from its state in the machine
-- reached so far, by its own part of the rest of the list, and for each pair what is still to be handled is what is
-- queued now and then what is still to be sent.
use Rattle.std.proofs.Common.{◌≡◌, ◌≢◌, ℕ, ⊎_elim, ◌<◌, ◌≤◌, true, false, cond, List, [], ◌∷◌, ◌++◌, map, Option, Some, None, refl, sym, ap, ◌∙◌, subst, inl, inr, ◌⊎◌, arith, append_assoc}
use Rattle.std.specs.Prelude.{◌==◌, slice_get}
use Rattle.std.specs.List.{All}
use Rattle.std.specs.Option.{option_map}
use Rattle.std.proofs.Math.Path.{fun_ext, ap₂}
use Rattle.std.proofs.lemmas.Bool.{eq-eqb}
use Rattle.std.proofs.lemmas.Bool.Decides.{eqb_tells}
use Rattle.std.proofs.lemmas.List.{append-nil}
use Rattle.std.proofs.lemmas.List.Elements.{All-nil, All-append, All-weaker, All-filter, All-head, filter-append}
use Rattle.std.proofs.lemmas.Option.{slice_get-map}
use Rattle.sig_runs.specs.Rules.{Rules, KeepStamps, addressed, coming_from}
use Rattle.sig_runs.specs.Machine.{Machine, IsRun, moved}
use Rattle.sig_runs.specs.LocalRun.{Local, Input, Act, CanDo, after, IsLocalRun, handled_in, handles, sends}
use Rattle.sig_runs.specs.LocalRun.Input.{Execute, Handle}
use Rattle.sig_runs.specs.Crew.{Member, IsLawful, HasLocalRun, acts_of, queued_at, crew_machine, opening_machine}
use Rattle.sig_runs.proofs.Lists.{pairs_step, head_of, slice_get-set_same, slice_get-set_other, same_lists_at}
use Rattle.sig_runs.proofs.Entries.{Entry, acts_by, FromStamp, IsRising, events, acts_by-same, acts_by-other}
use Rattle.sig_runs.proofs.Steps.{first_handled, first_sent, pulled, posted_is, posted_other, posted_same, IsOldest, pulled_is, pulled_other, pulled_own, applies, act_sends, handled_above}

module _ {S X E : Type 0} (rules : Rules S X E) where
  -- what is left of the runs

  -- The process p goes on, from the state in the first option and its own signals, by these acts to the state in the second.
  abbrev pub Goes : ℕ → List X → List (Act S X E) → List X → Option S → Option S → Type 0
  Goes p own acts own_end None None = acts ≡ []
  Goes p own acts own_end (Some s) (Some f) = IsLocalRun rules p (record { state = s; own = own }) acts (record { state = f; own = own_end })
  Goes p own acts own_end None (Some f) = ⊥
  Goes p own acts own_end (Some s) None = ⊥

  Goes-same : (p : ℕ) {own own' : List X} {acts acts' : List (Act S X E)} (own_end : List X) {o o' : Option S} (f : Option S) → own ≡ own' → acts ≡ acts' → o ≡ o' → Goes p own acts own_end o f → Goes p own' acts' own_end o' f
  Goes-same p {own} {own'} {acts} {acts'} own_end {o} {o'} f a b c h =
      subst (λ z. Goes p own' acts' own_end z f) c (subst (λ z. Goes p own' z own_end o f) b (subst (λ z. Goes p z acts own_end o f) a h))

  pub record Remaining (m : Machine S X) (es : List (Entry S X E)) (end : Machine S X) : Type 0 where
    pub each : (p : ℕ) → Goes p (m.queued p p) (acts_by p es) (end.queued p p) (slice_get m.procs p) (slice_get end.procs p)
    pub pairs : (s t : ℕ) → coming_from rules s (handles (acts_by t es)) ++ end.queued s t ≡ m.queued s t ++ addressed rules t (sends (acts_by s es))
    pub rising : IsRising rules es

  -- the lists of a pair, one act on

  handles_step : (e : Entry S X E) (es : List (Entry S X E)) (s t : ℕ) →
      coming_from rules s (handles (acts_by t (e ∷ es))) ≡ first_handled rules e.pid s t e.act.input ++ coming_from rules s (handles (acts_by t es))
  handles_step e es s t =
      elim (e.pid == t) as (λ c. coming_from rules s (handles (cond c (e.act ∷ acts_by t es) (acts_by t es))) ≡ cond c (coming_from rules s (handled_in e.act.input)) [] ++ coming_from rules s (handles (acts_by t es)))
      [ true ↦ filter-append (λ x. rules.from x == s) (handled_in e.act.input) (handles (acts_by t es)) | false ↦ refl ]

  sends_step : (e : Entry S X E) (es : List (Entry S X E)) (s t : ℕ) →
      addressed rules t (sends (acts_by s (e ∷ es))) ≡ first_sent rules e.pid s t e.act.effect.sends ++ addressed rules t (sends (acts_by s es))
  sends_step e es s t =
      elim (e.pid == s) as (λ c. addressed rules t (sends (cond c (e.act ∷ acts_by s es) (acts_by s es))) ≡ cond c (addressed rules t e.act.effect.sends) [] ++ addressed rules t (sends (acts_by s es)))
      [ true ↦ filter-append (λ x. rules.to x == t) e.act.effect.sends (sends (acts_by s es)) | false ↦ refl ]

  abbrev pub next_machine : Machine S X → Entry S X E → Machine S X
  next_machine m e = (moved rules m e.pid (pulled rules e.pid e.act.input m.queued) e.act.effect).machine

  next_pairs : (m : Machine S X) (e : Entry S X E) (es : List (Entry S X E)) (final : List X) (s t : ℕ) → IsOldest rules e.pid e.act.input m.queued →
      coming_from rules s (handles (acts_by t (e ∷ es))) ++ final ≡ m.queued s t ++ addressed rules t (sends (acts_by s (e ∷ es))) →
      coming_from rules s (handles (acts_by t es)) ++ final ≡ (next_machine m e).queued s t ++ addressed rules t (sends (acts_by s es))
  next_pairs m e es final s t o h =
      pairs_step (first_handled rules e.pid s t e.act.input) (coming_from rules s (handles (acts_by t es))) final (m.queued s t) ((next_machine m e).queued s t) (first_sent rules e.pid s t e.act.effect.sends) (addressed rules t (sends (acts_by s es)))
      (ap (λ z. first_handled rules e.pid s t e.act.input ++ z) (posted_is rules e.pid s t e.act.effect.sends (pulled rules e.pid e.act.input m.queued))
      ∙ sym (append_assoc (first_handled rules e.pid s t e.act.input) (pulled rules e.pid e.act.input m.queued s t) (first_sent rules e.pid s t e.act.effect.sends))
      ∙ ap (λ z. z ++ first_sent rules e.pid s t e.act.effect.sends) (pulled_is rules e.pid s t e.act.input m.queued o))
      (subst (λ z. z ++ final ≡ m.queued s t ++ (first_sent rules e.pid s t e.act.effect.sends ++ addressed rules t (sends (acts_by s es)))) (handles_step e es s t)
      (subst (λ z. coming_from rules s (handles (acts_by t (e ∷ es))) ++ final ≡ m.queued s t ++ z) (sends_step e es s t) h))

  -- one step

  -- what the first entry needs: its process has a state, can do the act, and goes on from there
  pub record IsReady (m : Machine S X) (e : Entry S X E) (es : List (Entry S X E)) (end : Machine S X) : Type 0 where
    pub state : S
    pub final : S
    pub at : slice_get m.procs e.pid ≡ Some state
    pub at_end : slice_get end.procs e.pid ≡ Some final
    pub can : CanDo rules e.pid (record { state = state; own = m.queued e.pid e.pid }) e.act.input e.act.effect
    pub goes_on : IsLocalRun rules e.pid (after rules e.pid (record { state = state; own = m.queued e.pid e.pid }) e.act) (acts_by e.pid es) (record { state = final; own = end.queued e.pid e.pid })

  is_ready : (m : Machine S X) (e : Entry S X E) (es : List (Entry S X E)) (end : Machine S X) → Remaining m (e ∷ es) end → IsReady m e es end
  is_ready m e es end r =
      go (slice_get m.procs e.pid) (slice_get end.procs e.pid) refl refl
      (Goes-same e.pid (end.queued e.pid e.pid) (slice_get end.procs e.pid) refl (acts_by-same e.pid e es refl) refl (r.each e.pid))
    where
      go : (o f : Option S) → slice_get m.procs e.pid ≡ o → slice_get end.procs e.pid ≡ f → Goes e.pid (m.queued e.pid e.pid) (e.act ∷ acts_by e.pid es) (end.queued e.pid e.pid) o f → IsReady m e es end
      go None None a b g = let n : e.act ∷ acts_by e.pid es ≡ [] = g in absurd cc
      go (Some s) (Some f) a b g = record { state = s; final = f; at = a; at_end = b; can = g.0; goes_on = g.1 }
      go None (Some f) a b g = absurd g
      go (Some s) None a b g = absurd g

  next_remaining : (m : Machine S X) (e : Entry S X E) (es : List (Entry S X E)) (end : Machine S X) → Remaining m (e ∷ es) end → IsReady m e es end → IsOldest rules e.pid e.act.input m.queued → Remaining (next_machine m e) es end
  next_remaining m e es end r ready oldest = record {
    each = λ p. at p (eqb_tells e.pid p);
    pairs = λ s t. next_pairs m e es (end.queued s t) s t oldest (r.pairs s t);
    rising = r.rising.1;
  }
    where
      next : Machine S X
      next = next_machine m e

      here : Goes e.pid (next.queued e.pid e.pid) (acts_by e.pid es) (end.queued e.pid e.pid) (slice_get next.procs e.pid) (slice_get end.procs e.pid)
      here =
          subst (λ z. Goes e.pid (next.queued e.pid e.pid) (acts_by e.pid es) (end.queued e.pid e.pid) z (slice_get end.procs e.pid)) (sym (slice_get-set_same m.procs e.pid e.act.effect.state ready.state ready.at))
          (subst (λ z. Goes e.pid (next.queued e.pid e.pid) (acts_by e.pid es) (end.queued e.pid e.pid) (Some e.act.effect.state) z) (sym ready.at_end)
          (subst (λ z. Goes e.pid z (acts_by e.pid es) (end.queued e.pid e.pid) (Some e.act.effect.state) (Some ready.final))
          (sym (posted_same rules e.pid e.pid e.act.effect.sends (pulled rules e.pid e.act.input m.queued) ∙ ap (λ z. z ++ addressed rules e.pid e.act.effect.sends) (pulled_own rules e.pid e.act.input m.queued)))
          ready.goes_on))

      at : (p : ℕ) → (((e.pid == p) ≡ true) × (e.pid ≡ p)) ⊎ (((e.pid == p) ≡ false) × (e.pid ≢ p)) → Goes p (next.queued p p) (acts_by p es) (end.queued p p) (slice_get next.procs p) (slice_get end.procs p)
      at p (inl a) = subst (λ z. Goes z (next.queued z z) (acts_by z es) (end.queued z z) (slice_get next.procs z) (slice_get end.procs z)) a.1 here
      at p (inr a) =
          Goes-same p (end.queued p p) (slice_get end.procs p)
          (sym (posted_other rules e.pid p p e.act.effect.sends (pulled rules e.pid e.act.input m.queued) a.1 ∙ pulled_other rules e.pid p e.act.input m.queued a.1))
          (acts_by-other p e es a.1) (sym (slice_get-set_other m.procs e.pid p e.act.effect.state a.1)) (r.each p)

  -- the end

  Goes-nil : (p : ℕ) (own own_end : List X) (o f : Option S) → Goes p own [] own_end o f → o ≡ f
  Goes-nil p own own_end None None h = refl
  Goes-nil p own own_end (Some s) (Some f) h = ap (λ l. Some l.state) h
  Goes-nil p own own_end None (Some f) h = absurd h
  Goes-nil p own own_end (Some s) None h = absurd h

  -- where nothing remains, the machine is at its end
  at_end : (m end : Machine S X) → Remaining m [] end → m ≡ end
  at_end m end r =
      let procs : m.procs ≡ end.procs = same_lists_at m.procs end.procs (λ p. Goes-nil p (m.queued p p) (end.queued p p) (slice_get m.procs p) (slice_get end.procs p) (r.each p)) in
      let lists : m.queued ≡ end.queued = fun_ext (λ s. fun_ext (λ t. sym (append-nil (m.queued s t)) ∙ sym (r.pairs s t))) in
      ap₂ (λ a b. record { procs = a; queued = b }) procs lists

  -- stamps

  -- each act has a stamp from b on
  abbrev pub ActsFrom : ℕ → List (Act S X E) → Type 0
  ActsFrom b [] = Unit {0}
  ActsFrom b (a ∷ later) = (b ≤ rules.event_stamp a.effect.event) × ActsFrom b later

  acts_from : (b p : ℕ) (es : List (Entry S X E)) → FromStamp rules b es → ActsFrom b (acts_by p es)
  acts_from b p [] h = tt
  acts_from b p (e ∷ es) h =
      elim (e.pid == p) as (λ c. ActsFrom b (cond c (e.act ∷ acts_by p es) (acts_by p es))) [ true ↦ (h.0, acts_from b p es h.1) | false ↦ acts_from b p es h.1 ]

  module _ (stamped : KeepStamps rules) where
    -- what these acts sent has a stamp from b on
    sends_from : (b p : ℕ) (acts : List (Act S X E)) (l end : Local S X) → IsLocalRun rules p l acts end → ActsFrom b acts → All (λ y. b ≤ rules.stamp y) (sends acts)
    sends_from b p [] l end h k = All-nil (λ y. b ≤ rules.stamp y)
    sends_from b p (a ∷ later) l end h k =
        All-append (λ y. b ≤ rules.stamp y) a.effect.sends (sends later)
        (All-weaker (λ y. rules.stamp y ≡ rules.event_stamp a.effect.event) (λ y. b ≤ rules.stamp y) (λ y e. let low : b ≤ rules.event_stamp a.effect.event = k.0 in omega arith) a.effect.sends (act_sends rules stamped p l a.input a.effect h.0))
        (sends_from b p later (after rules p l a) end h.1 k.1)

    goes_sends : (b p : ℕ) (own : List X) (acts : List (Act S X E)) (own_end : List X) (o f : Option S) → Goes p own acts own_end o f → ActsFrom b acts → All (λ y. b ≤ rules.stamp y) (sends acts)
    goes_sends b p own acts own_end None None h k = rw h (All-nil (λ y. b ≤ rules.stamp y))
    goes_sends b p own acts own_end (Some s) (Some f) h k = sends_from b p acts (record { state = s; own = own }) (record { state = f; own = own_end }) h k
    goes_sends b p own acts own_end None (Some f) h k = absurd h
    goes_sends b p own acts own_end (Some s) None h k = absurd h

    -- The signal that the first entry handles is the oldest of its list: it is queued, since what is sent from here on has
    -- no lower stamp than the entry, and a handled signal has one.
    oldest : (m : Machine S X) (e : Entry S X E) (es : List (Entry S X E)) (end : Machine S X) → Remaining m (e ∷ es) end → IsReady m e es end → IsOldest rules e.pid e.act.input m.queued
    oldest m e es end r ready = go e.act.input refl
      where
        now : ℕ
        now = rules.event_stamp e.act.effect.event

        later : (s : ℕ) → All (λ y. now ≤ rules.stamp y) (sends (acts_by s (e ∷ es)))
        later s =
            goes_sends now s (m.queued s s) (acts_by s (e ∷ es)) (end.queued s s) (slice_get m.procs s) (slice_get end.procs s) (r.each s)
            (acts_from now s (e ∷ es) (omega arith, r.rising.0))

        go : (i : Input X) → e.act.input ≡ i → IsOldest rules e.pid i m.queued
        go Execute h = tt
        go (Handle x) h =
            let f : ℕ = rules.from x in
            let below : rules.stamp x < now =
            handled_above rules stamped e.pid (record { state = ready.state; own = m.queued e.pid e.pid }) x e.act.effect
            (subst (λ z. CanDo rules e.pid (record { state = ready.state; own = m.queued e.pid e.pid }) z e.act.effect) h ready.can) in
            let first : first_handled rules e.pid f e.pid e.act.input ≡ x ∷ [] =
            ap (λ z. first_handled rules e.pid f e.pid z) h ∙ ap (λ c. cond c (cond (f == f) (x ∷ []) []) []) (eq-eqb e.pid e.pid refl) ∙ ap (λ c. cond c (x ∷ []) []) (eq-eqb f f refl) in
            let handled_now : coming_from rules f (handles (acts_by e.pid (e ∷ es))) ≡ x ∷ coming_from rules f (handles (acts_by e.pid es)) =
            handles_step e es f e.pid ∙ ap (λ z. z ++ coming_from rules f (handles (acts_by e.pid es))) first in
            let law : x ∷ (coming_from rules f (handles (acts_by e.pid es)) ++ end.queued f e.pid) ≡ m.queued f e.pid ++ addressed rules e.pid (sends (acts_by f (e ∷ es))) =
            subst (λ z. z ++ end.queued f e.pid ≡ m.queued f e.pid ++ addressed rules e.pid (sends (acts_by f (e ∷ es)))) handled_now (r.pairs f e.pid) in
            ⊎_elim (λ w. w)
            (λ w.
            let low : now ≤ rules.stamp x =
            All-head (λ y. now ≤ rules.stamp y) x (coming_from rules f (handles (acts_by e.pid es)) ++ end.queued f e.pid)
            (subst (λ z. All (λ y. now ≤ rules.stamp y) z) w.1
            (All-filter (λ y. rules.to y == e.pid) (λ y. now ≤ rules.stamp y) (sends (acts_by f (e ∷ es))) (later f))) in
            absurd (omega arith))
            (head_of x (coming_from rules f (handles (acts_by e.pid es)) ++ end.queued f e.pid) (m.queued f e.pid) (addressed rules e.pid (sends (acts_by f (e ∷ es)))) law)

    pub merge : (es : List (Entry S X E)) (m end : Machine S X) → Remaining m es end → IsRun rules m (events es) end
    merge [] m end r = at_end m end r
    merge (e ∷ es) m end r =
        let ready : IsReady m e es end = is_ready m e es end r in
        let old : IsOldest rules e.pid e.act.input m.queued = oldest m e es end r ready in (
          next_machine m e,
          applies rules stamped m e.pid ready.state e.act.input e.act.effect ready.at ready.can old,
          merge es (next_machine m e) end (next_remaining m e es end r ready old),
        )

-- from a lawful crew and a list of its acts to what the induction carries

goes_from_run : {S X E : Type 0} (rules : Rules S X E) (p : ℕ) (o : Option S) (c : Option (Member S X E)) → HasLocalRun rules p o c →
    Goes rules p [] (acts_of c) (queued_at rules p p c) o (option_map (λ m. m.local.state) c)
goes_from_run rules p None None h = refl
goes_from_run rules p (Some s) (Some m) h =
    subst (λ z. Goes rules p [] m.acts z (Some s) (Some m.local.state)) (sym (ap (λ c. cond c m.local.own (coming_from rules p m.taken_in)) (eq-eqb p p refl))) h
goes_from_run rules p None (Some m) h = absurd h
goes_from_run rules p (Some s) None h = absurd h

module _ {S X E : Type 0} (rules : Rules S X E) (opening : List S) (crew : List (Member S X E)) (es : List (Entry S X E)) (lawful : IsLawful rules opening crew)
    (parts : (p : ℕ) → acts_by p es ≡ acts_of (slice_get crew p)) (rising : IsRising rules es) where
  crew_remaining : Remaining rules (opening_machine opening) es (crew_machine rules crew)
  crew_remaining = record {
    each = λ p.
        subst (λ z. Goes rules p [] z (queued_at rules p p (slice_get crew p)) (slice_get opening p) (slice_get (map (λ m. m.local.state) crew) p)) (sym (parts p))
        (subst (λ z. Goes rules p [] (acts_of (slice_get crew p)) (queued_at rules p p (slice_get crew p)) (slice_get opening p) z) (sym (slice_get-map (λ m. m.local.state) crew p))
        (goes_from_run rules p (slice_get opening p) (slice_get crew p) (lawful.runs p)));
    pairs = λ s t.
        subst (λ z. coming_from rules s (handles z) ++ queued_at rules s t (slice_get crew t) ≡ addressed rules t (sends (acts_by s es))) (sym (parts t))
        (subst (λ z. coming_from rules s (handles (acts_of (slice_get crew t))) ++ queued_at rules s t (slice_get crew t) ≡ addressed rules t (sends z)) (sym (parts s)) (lawful.pairs s t));
    rising = rising;
  }

  -- The merge theorem, for a list that has the acts of each process in their order and whose stamps never fall.
  pub merged_run : KeepStamps rules → IsRun rules (opening_machine opening) (events es) (crew_machine rules crew)
  merged_run stamped = merge rules stamped es (opening_machine opening) (crew_machine rules crew) crew_remaining
