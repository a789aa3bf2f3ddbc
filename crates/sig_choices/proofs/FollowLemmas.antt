-- A crew goes along the events of a record, one more at each step, or stops.
use Rattle.std.proofs.Common.{◌≡◌, ℕ, true, false, cond, List, [], ◌∷◌, ◌++◌, length, Some, None, refl, sym, ap, ◌∙◌, subst}
use Rattle.std.specs.Prelude.{◌==◌, slice_get}
use Rattle.std.proofs.lemmas.Option.{same_Some, none-some}
use Rattle.sig_kinds.specs.declared.signal.Signal.{Signal}
use Rattle.sig_program.specs.Scripts.{Program}
use Rattle.sig_runs.specs.Machine.{Machine, At, Applied, IsRun, apply, choice}
use Rattle.sig_runs.specs.Crew.{opening_machine}
use Rattle.sig_runs.specs.Order.{events_by}
use Rattle.sig_runs.proofs.Runs.{run-push, run-rest}
use Rattle.sig_model.specs.declared.event.Event.{Event}
use Rattle.sig_model.specs.ProcessState.{ProcessState}
use Rattle.sig_model.specs.Machine.{acted_at, rules_with, rules_of, opening_of}
use Rattle.sig_model.specs.Running.{Running}
use Rattle.sig_model.specs.SettledRun.{events_of}
use Rattle.sig_model.specs.CrewLaw.{machine_of}
use Rattle.sig_choices.specs.Choosing.{HasMade}
use Rattle.sig_choices.specs.Following.{HasFollowed, StopsAfter}

pub by_more : (q p : ℕ) (e : Event) (es : List (At Event)) → events_by q (es ++ record { pid = p; event = e } ∷ []) ≡ cond (p == q) (events_by q es ++ e ∷ []) (events_by q es)
by_more q p e [] = elim (p == q) as (λ c. cond c (e ∷ []) [] ≡ cond c (e ∷ []) []) [ true ↦ refl | false ↦ refl ]
by_more q p e (a ∷ es) =
    ap (λ z. cond (a.pid == q) (a.event ∷ z) z) (by_more q p e es)
    ∙ elim (a.pid == q) as (λ c. cond c (a.event ∷ cond (p == q) (events_by q es ++ e ∷ []) (events_by q es)) (cond (p == q) (events_by q es ++ e ∷ []) (events_by q es)) ≡ cond (p == q) (cond c (a.event ∷ events_by q es) (events_by q es) ++ e ∷ []) (cond c (a.event ∷ events_by q es) (events_by q es))) [
      | true ↦ elim (p == q) as (λ d. a.event ∷ cond d (events_by q es ++ e ∷ []) (events_by q es) ≡ cond d (a.event ∷ (events_by q es ++ e ∷ [])) (a.event ∷ events_by q es)) [ true ↦ refl | false ↦ refl ]
      | false ↦ refl
    ]

pub told_did : (script : Program) (e : Event) → (rules_of script).did e ≡ acted_at e.did
unfolding rules_with
told_did script e = refl

module _ (script : Program) (es : List (At Event)) (crew : List Running) (h : HasFollowed script es crew) (p : ℕ) (e : Event) where
  abbrev opening : Machine ProcessState Signal
  opening = opening_machine (opening_of script)

  abbrev next : At Event
  next = record { pid = p; event = e }

  -- the event was made
  module _ (after : List Running) (m : HasMade script crew p (choice p (acted_at e.did)) after) (same : m.event ≡ e) where
    pub followed_more : HasFollowed script (es ++ next ∷ []) after
    followed_more = record {
      lawful = m.lawful;
      run = run-push (rules_of script) es next opening (machine_of script crew) (machine_of script after) h.run
          (subst (λ d. apply (rules_of script) (machine_of script crew) (choice p d) ≡ Some (record { machine = machine_of script after; event = e })) (sym (told_did script e))
          (subst (λ z. apply (rules_of script) (machine_of script crew) (choice p (acted_at e.did)) ≡ Some (record { machine = machine_of script after; event = z })) same m.step));
      told = λ q.
          by_more q p e es
          ∙ ap (λ z. cond (p == q) (z ++ e ∷ []) z) (h.told q)
          ∙ ap (λ z. cond (p == q) (events_of (slice_get crew q) ++ z ∷ []) (events_of (slice_get crew q))) (sym same)
          ∙ sym (m.events q);
    }

  -- what a run with this event would make next
  applied : (end : Machine ProcessState Signal) → IsRun (rules_of script) opening (es ++ next ∷ []) end →
      (mid : Machine ProcessState Signal) × (apply (rules_of script) (machine_of script crew) (choice p (acted_at e.did)) ≡ Some (record { machine = mid; event = e }))
  applied end run =
      let w : IsRun (rules_of script) (machine_of script crew) (next ∷ []) end = run-rest (rules_of script) es (next ∷ []) opening (machine_of script crew) end h.run run in
      (w.0, subst (λ d. apply (rules_of script) (machine_of script crew) (choice p d) ≡ Some (record { machine = w.0; event = e })) (told_did script e) w.1)

  module _ (events rest : List (At Event)) (split : events ≡ es ++ next ∷ rest) (count : ℕ) (many : count ≡ length es) where
    -- the choice isn't possible
    pub stops_refused : apply (rules_of script) (machine_of script crew) (choice p (acted_at e.did)) ≡ None → StopsAfter script events count
    stops_refused none = record {
      before = es;
      next = next;
      rest = rest;
      split = split;
      many = many;
      machine = machine_of script crew;
      run = h.run;
      none = λ end run. let w = applied end run in none-some (record { machine = w.0; event = e }) (sym none ∙ w.1);
    }

    -- another event was made
    pub stops_other : (after : List Running) (m : HasMade script crew p (choice p (acted_at e.did)) after) → (m.event ≡ e → ⊥) → StopsAfter script events count
    stops_other after m ne = record {
      before = es;
      next = next;
      rest = rest;
      split = split;
      many = many;
      machine = machine_of script crew;
      run = h.run;
      none = λ end run.
          let w = applied end run in
          ne (ap (λ (z : Applied ProcessState Signal Event). z.event) (same_Some (record { machine = machine_of script after; event = m.event }) (record { machine = w.0; event = e }) (sym m.step ∙ w.1)));
    }
