-- One more event keeps a crew lawful, and is a step of the machine of the crew.
use Rattle.std.proofs.Common.{◌≡◌, ◌≢◌, ℕ, true, false, cond, List, [], ◌∷◌, ◌++◌, map, Option, Some, None, refl, sym, ap, ◌∙◌, subst, inl, inr, ◌⊎◌}
use Rattle.std.specs.Prelude.{◌==◌, slice_get, slice_set}
use Rattle.std.specs.Option.{option_map}
use Rattle.std.proofs.lemmas.Bool.{eq-eqb}
use Rattle.std.proofs.lemmas.Bool.Decides.{eqb_tells}
use Rattle.std.proofs.lemmas.List.{append-nil, map-set}
use Rattle.std.proofs.lemmas.List.Elements.{filter-append}
use Rattle.std.proofs.lemmas.Option.{slice_get-map}
use Rattle.sig_runs.specs.Rules.{Rules, KeepStamps, addressed, coming_from}
use Rattle.sig_runs.specs.Machine.{apply, choice, posted}
use Rattle.sig_runs.specs.LocalRun.{Local, Act, CanDo, after, IsLocalRun, own_left, handled_in, handles, sends}
use Rattle.sig_runs.specs.Crew.{Member, IsLawful, IsLawfulWith, HasLocalRun, HasOwn, acts_of, queued_at, machine_with}
use Rattle.sig_runs.proofs.Lists.{pair_event, slice_get-set_same, slice_get-set_other}
use Rattle.sig_runs.proofs.Steps.{first_handled, first_sent, pulled, posted_is, posted_same, posted_other, pulled_is, pulled_own, pulled_other, IsOldest, applies}
use Rattle.sig_runs.proofs.Replay.{handles-push, sends-push, run-push}

module _ {S X E : Type 0} (rules : Rules S X E) (opening : List S) where
  -- a lawful crew, with what is queued at it
  own_queued : (p : ℕ) (o : Option (Member S X E)) → HasOwn (queued_at rules p p o) o
  own_queued p None = tt
  own_queued p (Some m) = ap (λ c. cond c m.local.own (coming_from rules p m.taken_in)) (eq-eqb p p refl)

  pub with_queued : (crew : List (Member S X E)) → IsLawful rules opening crew → IsLawfulWith rules opening crew (λ s t. queued_at rules s t (slice_get crew t))
  with_queued crew h = record { runs = h.runs; own = λ p. own_queued p (slice_get crew p); pairs = h.pairs }

  -- the member after one more act
  abbrev pub grown : ℕ → Member S X E → Act S X E → Member S X E
  grown p m a = record { local = after rules p m.local a; taken_in = m.taken_in; acts = m.acts ++ a ∷ [] }

  module _ (stamped : KeepStamps rules) (crew : List (Member S X E)) (queued : ℕ → ℕ → List X) (p : ℕ) (m : Member S X E) (there : slice_get crew p ≡ Some m) (a : Act S X E) (n : Member S X E)
      (local_is : n.local ≡ after rules p m.local a) (acts_are : n.acts ≡ m.acts ++ a ∷ []) where
    abbrev next_crew : List (Member S X E)
    next_crew = slice_set crew p n

    abbrev next_queued : ℕ → ℕ → List X
    next_queued = posted rules p a.effect.sends (pulled rules p a.input queued)

    at_p : slice_get next_crew p ≡ Some n
    at_p = slice_get-set_same crew p n m there

    acts_now : (q : ℕ) → acts_of (slice_get next_crew q) ≡ acts_of (slice_get crew q) ++ cond (p == q) (a ∷ []) []
    acts_now q = go (eqb_tells p q)
      where
        go : (((p == q) ≡ true) × (p ≡ q)) ⊎ (((p == q) ≡ false) × (p ≢ q)) → acts_of (slice_get next_crew q) ≡ acts_of (slice_get crew q) ++ cond (p == q) (a ∷ []) []
        go (inl e) = rw e.0 (subst (λ z. acts_of (slice_get next_crew z) ≡ acts_of (slice_get crew z) ++ a ∷ []) e.1 (ap (λ o. acts_of o) at_p ∙ acts_are ∙ ap (λ o. acts_of o ++ a ∷ []) (sym there)))
        go (inr e) = rw e.0 (ap (λ o. acts_of o) (slice_get-set_other crew p q n e.1) ∙ sym (append-nil (acts_of (slice_get crew q))))

    handles_now : (s t : ℕ) → coming_from rules s (handles (acts_of (slice_get next_crew t))) ≡ coming_from rules s (handles (acts_of (slice_get crew t))) ++ first_handled rules p s t a.input
    handles_now s t =
        ap (λ z. coming_from rules s (handles z)) (acts_now t)
        ∙ elim (p == t) as (λ c. coming_from rules s (handles (acts_of (slice_get crew t) ++ cond c (a ∷ []) [])) ≡ coming_from rules s (handles (acts_of (slice_get crew t))) ++ cond c (coming_from rules s (handled_in a.input)) []) [
          | true ↦ ap (λ z. coming_from rules s z) (handles-push (acts_of (slice_get crew t)) a) ∙ filter-append (λ x. rules.from x == s) (handles (acts_of (slice_get crew t))) (handled_in a.input)
          | false ↦ ap (λ z. coming_from rules s (handles z)) (append-nil (acts_of (slice_get crew t))) ∙ sym (append-nil (coming_from rules s (handles (acts_of (slice_get crew t)))))
        ]

    sends_now : (s t : ℕ) → addressed rules t (sends (acts_of (slice_get next_crew s))) ≡ addressed rules t (sends (acts_of (slice_get crew s))) ++ first_sent rules p s t a.effect.sends
    sends_now s t =
        ap (λ z. addressed rules t (sends z)) (acts_now s)
        ∙ elim (p == s) as (λ c. addressed rules t (sends (acts_of (slice_get crew s) ++ cond c (a ∷ []) [])) ≡ addressed rules t (sends (acts_of (slice_get crew s))) ++ cond c (addressed rules t a.effect.sends) []) [
          | true ↦ ap (λ z. addressed rules t z) (sends-push (acts_of (slice_get crew s)) a) ∙ filter-append (λ x. rules.to x == t) (sends (acts_of (slice_get crew s))) a.effect.sends
          | false ↦ ap (λ z. addressed rules t (sends z)) (append-nil (acts_of (slice_get crew s))) ∙ sym (append-nil (addressed rules t (sends (acts_of (slice_get crew s)))))
        ]

    run_now : (o : Option S) → HasLocalRun rules p o (Some m) → CanDo rules p m.local a.input a.effect → HasLocalRun rules p o (Some n)
    run_now None h can = absurd h
    run_now (Some s) h can =
        subst (λ z. IsLocalRun rules p (record { state = s; own = [] }) z n.local) (sym acts_are)
        (subst (λ z. IsLocalRun rules p (record { state = s; own = [] }) (m.acts ++ a ∷ []) z) (sym local_is) (run-push rules stamped p m.acts a (record { state = s; own = [] }) m.local h can))

    -- the crew stays lawful
    pub event_keeps : IsLawfulWith rules opening crew queued → CanDo rules p m.local a.input a.effect → IsOldest rules p a.input queued → IsLawfulWith rules opening next_crew next_queued
    event_keeps h can old = record {
      runs = λ q. runs_at q (eqb_tells p q);
      own = λ q. own_at q (eqb_tells p q);
      pairs = λ s t.
          subst (λ z. z ++ next_queued s t ≡ addressed rules t (sends (acts_of (slice_get next_crew s)))) (sym (handles_now s t))
          (subst (λ z. (coming_from rules s (handles (acts_of (slice_get crew t))) ++ first_handled rules p s t a.input) ++ next_queued s t ≡ z) (sym (sends_now s t))
          (subst (λ z. (coming_from rules s (handles (acts_of (slice_get crew t))) ++ first_handled rules p s t a.input) ++ z ≡ addressed rules t (sends (acts_of (slice_get crew s))) ++ first_sent rules p s t a.effect.sends)
          (sym (posted_is rules p s t a.effect.sends (pulled rules p a.input queued)))
          (pair_event (coming_from rules s (handles (acts_of (slice_get crew t)))) (first_handled rules p s t a.input) (pulled rules p a.input queued s t) (first_sent rules p s t a.effect.sends) (queued s t) (addressed rules t (sends (acts_of (slice_get crew s))))
          (pulled_is rules p s t a.input queued old) (h.pairs s t))));
    }
      where
        runs_at : (q : ℕ) → (((p == q) ≡ true) × (p ≡ q)) ⊎ (((p == q) ≡ false) × (p ≢ q)) → HasLocalRun rules q (slice_get opening q) (slice_get next_crew q)
        runs_at q (inl e) =
            subst (λ z. HasLocalRun rules z (slice_get opening z) (slice_get next_crew z)) e.1
            (subst (λ o. HasLocalRun rules p (slice_get opening p) o) (sym at_p) (run_now (slice_get opening p) (subst (λ o. HasLocalRun rules p (slice_get opening p) o) there (h.runs p)) can))
        runs_at q (inr e) = subst (λ o. HasLocalRun rules q (slice_get opening q) o) (sym (slice_get-set_other crew p q n e.1)) (h.runs q)

        own_at : (q : ℕ) → (((p == q) ≡ true) × (p ≡ q)) ⊎ (((p == q) ≡ false) × (p ≢ q)) → HasOwn (next_queued q q) (slice_get next_crew q)
        own_at q (inl e) =
            let own : queued p p ≡ m.local.own = subst (λ o. HasOwn (queued p p) o) there (h.own p) in
            subst (λ z. HasOwn (next_queued z z) (slice_get next_crew z)) e.1
            (subst (λ o. HasOwn (next_queued p p) o) (sym at_p)
            (posted_same rules p p a.effect.sends (pulled rules p a.input queued) ∙ ap (λ z. z ++ addressed rules p a.effect.sends) (pulled_own rules p a.input queued ∙ ap (λ z. own_left rules p a.input z) own) ∙ sym (ap (λ (l : Local S X). l.own) local_is)))
        own_at q (inr e) =
            subst (λ o. HasOwn (next_queued q q) o) (sym (slice_get-set_other crew p q n e.1))
            (subst (λ z. HasOwn z (slice_get crew q)) (sym (posted_other rules p q q a.effect.sends (pulled rules p a.input queued) e.1 ∙ pulled_other rules p q a.input queued e.1)) (h.own q))

    -- and is one step of its machine
    pub event_applies : IsLawfulWith rules opening crew queued → CanDo rules p m.local a.input a.effect → IsOldest rules p a.input queued →
        apply rules (machine_with crew queued) (choice p (rules.did a.effect.event)) ≡ Some (record { machine = machine_with next_crew next_queued; event = a.effect.event })
    event_applies h can old =
        applies rules stamped (machine_with crew queued) p m.local.state a.input a.effect
        (slice_get-map (λ m. m.local.state) crew p ∙ ap (λ o. option_map (λ m. m.local.state) o) there)
        (subst (λ z. CanDo rules p (record { state = m.local.state; own = z }) a.input a.effect) (sym (subst (λ o. HasOwn (queued p p) o) there (h.own p))) can) old
        ∙ ap (λ z. Some (record { machine = record { procs = z; queued = next_queued }; event = a.effect.event }))
        (ap (λ z. slice_set (map (λ m. m.local.state) crew) p z) (sym (ap (λ (l : Local S X). l.state) local_is)) ∙ sym (map-set (λ (m : Member S X E). m.local.state) crew p n))
