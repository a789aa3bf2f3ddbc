-- A choice that a process makes is a step of the machine of its crew.
use Rattle.std.proofs.Common.{◌≡◌, ℕ, Bool, true, false, cond, List, [], ◌∷◌, ◌++◌, Some, refl, sym, ap, ◌∙◌, subst, inl, inr, ◌⊎◌}
use Rattle.std.specs.Prelude.{All, slice_get, slice_set}
use Rattle.std.specs.Bool.{MatchBool}
use Rattle.std.proofs.lemmas.Bool.{eq-eqb, ne_eqb}
use Rattle.std.proofs.lemmas.List.{append_cancel_left, set-set}
use Rattle.std.proofs.lemmas.List.Elements.{All-head}
use Rattle.std.proofs.lemmas.Option.{same_Some}
use Rattle.sig_kinds.specs.declared.signal.Signal.{Signal}
use Rattle.sig_program.specs.Scripts.{Program}
use Rattle.sig_runs.specs.Rules.{Effect}
use Rattle.sig_runs.specs.Rules.Did.{Exec, From}
use Rattle.sig_runs.specs.Machine.{apply, choice}
use Rattle.sig_runs.specs.Machine.Choice.{Executes, Handles}
use Rattle.sig_runs.proofs.Lists.{slice_get-set_same}
use Rattle.sig_model.specs.declared.event.Event.{Event}
use Rattle.sig_model.specs.ProcessState.{ProcessState}
use Rattle.sig_model.specs.Bodies.{Body}
use Rattle.sig_model.specs.Executing.{executing}
use Rattle.sig_model.specs.Finishing.{finished_exec}
use Rattle.sig_model.specs.Machine.{rules_of, rules_with, handling_of}
use Rattle.sig_model.specs.Keeping.{IsToItself}
use Rattle.sig_model.specs.Running.{Running, exec_next, next_of}
use Rattle.sig_model.specs.SettledRun.{events_of}
use Rattle.sig_model.specs.CrewLaw.{IsLawfulCrew, IsMachineStep, machine_of}
use Rattle.sig_model.proofs.Lookups.{mapped_tells, at_set}
use Rattle.sig_model.proofs.Guards.{Executed, Handled, exec_next_tells, handle_next_tells}
use Rattle.sig_model.proofs.KeptLawLemmas.{step_lawful, step_applies}
use Rattle.sig_choices.specs.Choosing.{HasHandledOf, events_with, HasMade}
use Rattle.sig_choices.proofs.Reordering.{reordered_lawful, reordered_still}

last_same : {X : Type 0} (xs : List X) (a b : X) → xs ++ a ∷ [] ≡ xs ++ b ∷ [] → a ≡ b
last_same xs a b e = let f : a ∷ [] ≡ b ∷ [] = append_cancel_left xs (a ∷ []) (b ∷ []) e in cc

module _ (script : Program) (crew : List Running) (p : ℕ) (r t : Running) (there : slice_get crew p ≡ Some r) where
  -- the events of the crew after it
  events_after : (e : Event) → t.events ≡ r.events ++ e ∷ [] → (q : ℕ) → events_of (slice_get (slice_set crew p t) q) ≡ events_with crew p e q
  events_after e more =
      at_set (λ q o. events_of o ≡ events_with crew p e q) crew p r t there
      (more ∙ ap (λ o. events_of o ++ e ∷ []) (sym there) ∙ sym (ap (λ c. cond c (events_of (slice_get crew p) ++ e ∷ []) (events_of (slice_get crew p))) (eq-eqb p p refl)))
      (λ q ne. sym (ap (λ c. cond c (events_of (slice_get crew q) ++ e ∷ []) (events_of (slice_get crew q))) (ne_eqb p q ne)))

  module _ (law : IsLawfulCrew script crew) where
    executed_event : (w : Executed r t) → (rules_of script).did w.effect.event ≡ Exec
    unfolding rules_with
    executed_event w =
        let b : (body : Body) × (executing r.proc r.state ≡ Some body) × (finished_exec r.pid r.state body ≡ w.effect) =
        mapped_tells (finished_exec r.pid r.state) (executing r.proc r.state) w.effect w.is_effect in
        ap (λ (e : Effect ProcessState Signal Event). (rules_of script).did e.event) (sym b.2)

    -- it executes
    pub executed_made : exec_next r ≡ Some t → HasMade script crew p (Executes p) (slice_set crew p t)
    executed_made h =
        let w : Executed r t = exec_next_tells r t h in
        let s : IsMachineStep script crew p r t = step_applies script crew law p r there t (inr h) in
        let same : s.event ≡ w.effect.event = last_same r.events s.event w.effect.event (sym s.more ∙ sym (ap (λ (z : Running). z.events) w.is)) in
        record {
          lawful = step_lawful script crew law p r there t (inr h);
          event = s.event;
          step = subst (λ c. apply (rules_of script) (machine_of script crew) c ≡ Some (record { machine = machine_of script (slice_set crew p t); event = s.event }))
              (ap (λ d. choice p d) (ap (λ e. (rules_of script).did e) same ∙ executed_event w)) s.step;
          events = events_after s.event s.more;
        }

    handled_event : (x : Signal) → (rules_of script).did (handling_of r.pid r.state x).event ≡ From x.from.0
    unfolding rules_with
    handled_event x = refl

    pub first_is : (mine : Bool) (own taken rest : List Signal) (x y : Signal) → MatchBool mine (own ≡ x ∷ rest) ((own ≡ []) × (taken ≡ x ∷ rest)) → next_of own taken ≡ Some y → x ≡ y
    first_is true own taken rest x y h n = same_Some x y (sym (ap (λ o. next_of o taken) h) ∙ n)
    first_is false own taken rest x y h n = same_Some x y (sym (ap (λ o. next_of o taken) h.0 ∙ ap (λ o. next_of [] o) h.1) ∙ n)

    pub from_s : (s : ℕ) (h : HasHandledOf s r t) → h.signal.from.0 ≡ s
    from_s s h = go h.from
      where
        go : (h.signal.from.0 ≡ s) ⊎ ((s ≡ r.pid) × ((rest : List Signal) × (r.own ≡ h.signal ∷ rest))) → h.signal.from.0 ≡ s
        go (inl e) = e
        go (inr (e, (rest, o))) =
            (All-head (IsToItself r.pid r.state.counts.stamp) h.signal rest (subst (λ xs. All (IsToItself r.pid r.state.counts.stamp) xs) o (law.keeping p r there).own)).from ∙ sym e

    -- it handles the oldest signal of s
    pub handled_made : (s : ℕ) → HasHandledOf s r t → HasMade script crew p (Handles p s) (slice_set crew p t)
    handled_made s h =
        let before : Running = record r { taken_in = h.waits } in
        let mid : List Running = slice_set crew p before in
        let at : slice_get mid p ≡ Some before = slice_get-set_same crew p before r there in
        let lawful : IsLawfulCrew script mid = reordered_lawful script crew law p r there h.waits h.alike h.arriving in
        let still : machine_of script mid ≡ machine_of script crew = reordered_still script crew law p r there h.waits h.alike h.arriving in
        let set : slice_set mid p t ≡ slice_set crew p t = set-set crew p before t in
        let w : Handled before t = handle_next_tells before t h.handled in
        let k : IsMachineStep script mid p before t = step_applies script mid lawful p before at t (inl h.handled) in
        let same : k.event ≡ (handling_of r.pid r.state w.signal).event = last_same r.events k.event (handling_of r.pid r.state w.signal).event (sym k.more ∙ sym (ap (λ (z : Running). z.events) w.is)) in
        let first : w.signal ≡ h.signal = first_is w.mine r.own h.waits w.rest w.signal h.signal w.first h.next in
        let told : (rules_of script).did k.event ≡ From s = ap (λ e. (rules_of script).did e) same ∙ handled_event w.signal ∙ ap (λ (x : Signal). From x.from.0) first ∙ ap (λ n. From n) (from_s s h) in
        record {
          lawful = subst (IsLawfulCrew script) set (step_lawful script mid lawful p before at t (inl h.handled));
          event = k.event;
          step = subst (λ m. apply (rules_of script) m (Handles p s) ≡ Some (record { machine = machine_of script (slice_set crew p t); event = k.event })) still
              (subst (λ c. apply (rules_of script) (machine_of script mid) (Handles p s) ≡ Some (record { machine = machine_of script c; event = k.event })) set
              (subst (λ c. apply (rules_of script) (machine_of script mid) c ≡ Some (record { machine = machine_of script (slice_set mid p t); event = k.event })) (ap (λ d. choice p d) told) k.step));
          events = events_after k.event k.more;
        }
