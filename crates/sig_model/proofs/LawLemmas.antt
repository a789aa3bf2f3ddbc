-- The law of a crew of running processes is the law of the theory of processes that run apart.
use Rattle.std.proofs.Common.{◌≡◌, ◌≢◌, ℕ, zero, suc, ◌+◌, ◌≤◌, List, [], ◌∷◌, ◌++◌, map, length, true, false, cond, Option, Some, None, refl, sym, ap, ◌∙◌, subst, inl, inr, ◌⊎◌, append_assoc, arith}
use Rattle.std.specs.Prelude.{◌==◌, slice_get}
use Rattle.std.specs.Option.{option_map}
use Rattle.std.proofs.lemmas.Bool.{eq-eqb, ne_eqb}
use Rattle.std.proofs.lemmas.Bool.Decides.{eqb_tells}
use Rattle.std.proofs.lemmas.List.Elements.{filter-append, All-weaker}
use Rattle.std.proofs.lemmas.Option.{slice_get-map, slice_get_past}
use Rattle.sig_kinds.specs.declared.signal.Signal.{Signal}
use Rattle.sig_program.specs.Scripts.{Declared, Program}
use Rattle.sig_runs.specs.Rules.{Effect, addressed, coming_from}
use Rattle.sig_runs.specs.LocalRun.{Local, Act, Input, CanDo, after, IsLocalRun, handles, sends}
use Rattle.sig_runs.specs.LocalRun.Input.{Execute, Handle}
use Rattle.sig_runs.specs.Crew.{Member, acts_of, HasLocalRun, HasOwn, IsLawful}
use Rattle.sig_runs.specs.OnTheWay.{IsLawfulAtWork, own_part, taken_in_part, on_way}
use Rattle.sig_runs.proofs.Delivery.{lawful_at_rest}
use Rattle.sig_runs.proofs.Pairs.{own_law}
use Rattle.sig_model.specs.declared.event.Event.{Event}
use Rattle.sig_model.specs.ProcessState.{ProcessState, opening_state}
use Rattle.sig_model.specs.Machine.{rules_with, rules_of, execution_of, opening_from, opening_of}
use Rattle.sig_model.specs.Running.{Running}
use Rattle.sig_model.specs.Keeping.{IsArriving, IsKeeping, opening_local, local_of}
use Rattle.sig_model.specs.Accounts.{sent_by}
use Rattle.sig_model.specs.Accounts.{coming_from as sent_from}
use Rattle.sig_model.specs.OneWorker.{IsClear}
use Rattle.sig_model.specs.SettledRun.{IsProcessOf}
use Rattle.sig_model.specs.CrewLaw.{came_to, went_from, outbox_of, left_for, ArePaired, IsLawfulCrew, whole_member, crew_at_work}
use Rattle.sig_model.proofs.ClearLemmas.{clear_at}
use Rattle.sig_model.proofs.EventLemmas.{IsKeptOf}

-- what a process does alone asks its rules for its own part of the script, and for no other
module _ (turns : ℕ) (part other : ℕ → Option Declared) (pid : ℕ) (same : part pid ≡ other pid) where
  pub can_elsewhere : (l : Local ProcessState Signal) (i : Input Signal) (e : Effect ProcessState Signal Event) → CanDo (rules_with turns part) pid l i e → CanDo (rules_with turns other) pid l i e
  unfolding rules_with
  can_elsewhere l Execute e c = (c.0, c.1, c.2, ap (λ o. execution_of pid o l.state) (sym same) ∙ c.3)
  can_elsewhere l (Handle x) e c = c

  runs_elsewhere : (acts : List (Act ProcessState Signal Event)) (l end : Local ProcessState Signal) → IsLocalRun (rules_with turns part) pid l acts end → IsLocalRun (rules_with turns other) pid l acts end
  unfolding rules_with
  runs_elsewhere [] l end h = h
  runs_elsewhere (a ∷ later) l end h = (can_elsewhere l a.input a.effect h.0, runs_elsewhere later (after (rules_with turns part) pid l a) end h.1)

opening_at : (pid count : ℕ) (ps : List Declared) (q : ℕ) → slice_get (opening_from pid count ps) q ≡ option_map (λ (d : Declared). opening_state (pid + q) count) (slice_get ps q)
opening_at pid count [] q = refl
opening_at pid count (p ∷ ps) zero = ap (λ n. Some (opening_state n count)) (let e : pid ≡ pid + zero = omega arith in e)
opening_at pid count (p ∷ ps) (suc q) =
    opening_at (pid + 1) count ps q ∙ ap (λ n. option_map (λ (d : Declared). opening_state n count) (slice_get ps q)) (let e : pid + 1 + q ≡ pid + suc q = omega arith in e)

past_none : {X : Type 0} (xs : List X) (p : ℕ) → slice_get xs p ≡ None → length xs ≤ p
past_none [] p h = omega arith
past_none (x ∷ xs) zero h = cc
past_none (x ∷ xs) (suc p) h = omega (arith, past_none xs p h)

abbrev pub mate : Option Running → Option (Member ProcessState Signal Event)
mate o = option_map whole_member o

module _ (script : Program) where
  abbrev count : ℕ
  count = length script.procs

  opening_is : (p : ℕ) (o : Option Declared) → slice_get script.procs p ≡ o → slice_get (opening_of script) p ≡ option_map (λ (d : Declared). opening_state p count) o
  opening_is p o e =
      opening_at 0 count script.procs p ∙ ap (λ z. option_map (λ (d : Declared). opening_state (0 + p) count) z) e
      ∙ ap (λ n. option_map (λ (d : Declared). opening_state n count) o) (let f : 0 + p ≡ p = omega arith in f)

  -- what the process p of a crew keeps, by the script's rules
  pub kept_of : (p : ℕ) (r : Running) → IsProcessOf script p r → IsKeeping r → IsKeptOf script p r
  kept_of p r w k =
      subst (λ q. slice_get script.procs q ≡ Some r.proc → IsKeptOf script q r) w.pid
      (λ there. record {
        process = (refl, w.turns, there);
        own = k.own;
        others = All-weaker (IsArriving r.pid r.count) (λ (x : Signal). x.from.0 ≢ r.pid) (λ x h. h.from) r.taken_in k.taken_in;
        outbox = k.outbox;
      }) w.proc

  module _ (crew : List Running) where
    abbrev mates : List (Member ProcessState Signal Event)
    mates = map whole_member crew

    abbrev box : ℕ → List Signal
    box p = outbox_of (slice_get crew p)

    abbrev way : ℕ → ℕ → List Signal
    way = on_way (rules_of script) mates box

    pub mate_at : (p : ℕ) (o : Option Running) → slice_get crew p ≡ o → slice_get mates p ≡ mate o
    mate_at p o at = slice_get-map whole_member crew p ∙ ap (λ z. mate z) at

    gone_case : (t : ℕ) (o : Option Running) → addressed (rules_of script) t (sends (acts_of (mate o))) ≡ went_from t o
    unfolding rules_with sent_by
    gone_case t None = refl
    gone_case t (Some r) = refl

    gone : (s t : ℕ) → addressed (rules_of script) t (sends (acts_of (slice_get mates s))) ≡ went_from t (slice_get crew s)
    gone s t = ap (λ o. addressed (rules_of script) t (sends (acts_of o))) (mate_at s (slice_get crew s) refl) ∙ gone_case t (slice_get crew s)

    module _ (keeping : (p : ℕ) (r : Running) → slice_get crew p ≡ Some r → IsKeeping r) where
      come_case : (s t : ℕ) (o : Option Running) (xs : List Signal) → slice_get crew t ≡ o →
          coming_from (rules_of script) s (handles (acts_of (mate o))) ++ (taken_in_part (rules_of script) s (mate o) ++ xs) ≡ came_to s o ++ xs
      unfolding rules_with
      come_case s t None xs at = refl
      come_case s t (Some r) xs at =
          ap (λ z. sent_from s z ++ (sent_from s r.taken_in ++ xs)) (keeping t r at).ran.handled_told
          ∙ sym (append_assoc (sent_from s r.handled) (sent_from s r.taken_in) xs)
          ∙ ap (λ z. z ++ xs) (sym (filter-append (λ (x : Signal). x.from.0 == s) r.handled r.taken_in))

      left_is : (s t : ℕ) → addressed (rules_of script) t (box s) ≡ left_for t (slice_get crew s)
      unfolding rules_with
      left_is s t = refl

      -- what came of another process, and what is on its way
      come : (s t : ℕ) → s ≢ t → coming_from (rules_of script) s (handles (acts_of (slice_get mates t))) ++ way s t ≡ came_to s (slice_get crew t) ++ left_for t (slice_get crew s)
      come s t ne =
          ap (λ c. coming_from (rules_of script) s (handles (acts_of (slice_get mates t))) ++ cond c (own_part (slice_get mates t)) (taken_in_part (rules_of script) s (slice_get mates t) ++ addressed (rules_of script) t (box s))) (ne_eqb s t ne)
          ∙ ap (λ o. coming_from (rules_of script) s (handles (acts_of o)) ++ (taken_in_part (rules_of script) s o ++ addressed (rules_of script) t (box s))) (mate_at t (slice_get crew t) refl)
          ∙ come_case s t (slice_get crew t) (addressed (rules_of script) t (box s)) refl
          ∙ ap (λ z. came_to s (slice_get crew t) ++ z) (left_is s t)

      -- from the theory's law of each pair
      pub paired : IsLawfulAtWork (rules_of script) (opening_of script) (crew_at_work crew) → ArePaired crew
      paired h s t ne = sym (come s t ne) ∙ h.pairs s t ∙ gone s t

  module _ (crew : List Running) (law : IsLawfulCrew script crew) where
    run_of : (p : ℕ) (r : Running) → slice_get crew p ≡ Some r → IsLocalRun (rules_of script) p (record { state = opening_state p count; own = [] }) (whole_member r).acts (local_of r)
    run_of p r at =
        let w : IsProcessOf script p r = law.processes p r at in
        let acts : List (Act ProcessState Signal Event) = (whole_member r).acts in
        let own : IsLocalRun (rules_with script.turns (λ q. Some r.proc)) r.pid (opening_local r) acts (local_of r) =
        subst (λ n. IsLocalRun (rules_with n (λ q. Some r.proc)) r.pid (opening_local r) acts (local_of r)) w.turns (law.keeping p r at).ran.runs in
        let here : IsLocalRun (rules_of script) r.pid (opening_local r) acts (local_of r) =
        runs_elsewhere script.turns (λ q. Some r.proc) (slice_get script.procs) r.pid (sym (ap (slice_get script.procs) w.pid ∙ w.proc)) acts (opening_local r) (local_of r) own in
        subst (λ q. IsLocalRun (rules_of script) q (record { state = opening_state q count; own = [] }) acts (local_of r)) w.pid
        (subst (λ n. IsLocalRun (rules_of script) r.pid (record { state = opening_state r.pid n; own = [] }) acts (local_of r)) ((law.placed p r at).1 ∙ law.many) here)

    run_case : (p : ℕ) (o : Option Running) → slice_get crew p ≡ o → HasLocalRun (rules_of script) p (slice_get (opening_of script) p) (mate o)
    run_case p None at =
        let le : length crew ≤ p = past_none crew p at in
        subst (λ z. HasLocalRun (rules_of script) p z None) (sym (opening_is p None (slice_get_past script.procs p (omega (arith, le, law.many))))) tt
    run_case p (Some r) at =
        subst (λ z. HasLocalRun (rules_of script) p z (Some (whole_member r))) (sym (opening_is p (Some r.proc) (law.processes p r at).proc)) (run_of p r at)

    own_case : (p : ℕ) (o : Option Running) → slice_get crew p ≡ o → HasOwn (own_part (mate o)) (mate o)
    own_case p None at = tt
    own_case p (Some r) at = refl

    own_way : (p : ℕ) → way crew p p ≡ own_part (slice_get (mates crew) p)
    own_way p =
        ap (λ c. cond c (own_part (slice_get (mates crew) p)) (taken_in_part (rules_of script) p (slice_get (mates crew) p) ++ addressed (rules_of script) p (box crew p))) (eq-eqb p p refl)

    own_pair : (p : ℕ) (o : Option Running) → slice_get crew p ≡ o → coming_from (rules_of script) p (handles (acts_of (mate o))) ++ own_part (mate o) ≡ addressed (rules_of script) p (sends (acts_of (mate o)))
    own_pair p None at = refl
    own_pair p (Some r) at = own_law (rules_of script) p (whole_member r).acts (record { state = opening_state p count; own = [] }) (local_of r) (run_of p r at)

    pair_case : (s t : ℕ) → (((s == t) ≡ true) × (s ≡ t)) ⊎ (((s == t) ≡ false) × (s ≢ t)) →
        coming_from (rules_of script) s (handles (acts_of (slice_get (mates crew) t))) ++ way crew s t ≡ addressed (rules_of script) t (sends (acts_of (slice_get (mates crew) s)))
    pair_case s t (inr e) = come crew law.keeping s t e.1 ∙ law.pairs s t e.1 ∙ sym (gone crew s t)
    pair_case s t (inl e) =
        subst (λ z. coming_from (rules_of script) s (handles (acts_of (slice_get (mates crew) z))) ++ way crew s z ≡ addressed (rules_of script) z (sends (acts_of (slice_get (mates crew) s)))) e.1
        (ap (λ z. coming_from (rules_of script) s (handles (acts_of (slice_get (mates crew) s))) ++ z) (own_way s)
        ∙ subst (λ o. coming_from (rules_of script) s (handles (acts_of o)) ++ own_part o ≡ addressed (rules_of script) s (sends (acts_of o))) (sym (mate_at crew s (slice_get crew s) refl)) (own_pair s (slice_get crew s) refl))

    -- a lawful crew is lawful with what lies in its outboxes
    pub lawful_at_work : IsLawfulAtWork (rules_of script) (opening_of script) (crew_at_work crew)
    lawful_at_work = record {
      runs = λ p.
          subst (λ o. HasLocalRun (rules_of script) p (slice_get (opening_of script) p) o) (sym (mate_at crew p (slice_get crew p) refl)) (run_case p (slice_get crew p) refl);
      own = λ p.
          subst (λ o. HasOwn o (slice_get (mates crew) p)) (sym (own_way p))
          (subst (λ o. HasOwn (own_part o) o) (sym (mate_at crew p (slice_get crew p) refl)) (own_case p (slice_get crew p) refl));
      pairs = λ s t. pair_case s t (eqb_tells s t);
    }

    box_empty : IsClear crew → (p : ℕ) (o : Option Running) → slice_get crew p ≡ o → outbox_of o ≡ []
    box_empty clear p None at = refl
    box_empty clear p (Some r) at = clear_at crew p r at clear

    -- and where all outboxes are empty, without them
    pub lawful_clear : IsClear crew → IsLawful (rules_of script) (opening_of script) (map whole_member crew)
    lawful_clear clear = lawful_at_rest (rules_of script) (opening_of script) (mates crew) (box crew) (λ p. box_empty clear p (slice_get crew p) refl) lawful_at_work
