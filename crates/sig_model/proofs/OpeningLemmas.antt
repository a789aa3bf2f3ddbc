-- The crew as a script opens it is the opening of the machine.
use Rattle.std.proofs.Common.{◌≡◌, ◌≢◌, ℕ, zero, suc, ◌+◌, List, [], ◌∷◌, ◌++◌, map, length, Bool, true, false, cond, Option, Some, None, refl, sym, ap, ◌∙◌, subst, arith}
use Rattle.std.specs.Prelude.{◌==◌, slice_get}
use Rattle.std.specs.Option.{option_map}
use Rattle.std.proofs.lemmas.List.Elements.{All-nil, All-cons}
use Rattle.std.proofs.lemmas.Option.{slice_get-map}
use Rattle.sig_kinds.specs.declared.signal.Signal.{Signal}
use Rattle.sig_runs.specs.Rules.{addressed}
use Rattle.sig_runs.specs.Crew.{opening_machine}
use Rattle.sig_runs.specs.OnTheWay.{own_part, taken_in_part, on_way}
use Rattle.sig_program.specs.Scripts.{Declared, Program}
use Rattle.sig_model.specs.ProcessState.{opening_state}
use Rattle.sig_model.specs.Machine.{rules_of, opening_from, opening_of}
use Rattle.sig_model.specs.Running.{Running, opened}
use Rattle.sig_model.specs.OneWorker.{opened_from, opened_crew, IsClear}
use Rattle.sig_model.specs.Keeping.{IsToItself, IsLeaving}
use Rattle.sig_model.specs.SettledRun.{events_of}
use Rattle.sig_model.proofs.Lookups.{mapped_tells}
use Rattle.sig_model.proofs.EventLemmas.{member_of, IsKeptOf}
use Rattle.sig_model.proofs.CrewLemmas.{Mate, members}
use Rattle.sig_model.proofs.ReachLemmas.{IsBetweenVisits}

-- the process at each place of the opening
opened_at : (pid count turns : ℕ) (ps : List Declared) (q : ℕ) → slice_get (opened_from pid count turns ps) q ≡ option_map (opened (pid + q) count turns) (slice_get ps q)
opened_at pid count turns [] q = refl
opened_at pid count turns (p ∷ ps) zero = ap (λ n. Some (opened n count turns p)) (let e : pid ≡ pid + zero = omega arith in e)
opened_at pid count turns (p ∷ ps) (suc q) =
    opened_at (pid + 1) count turns ps q ∙ ap (λ n. option_map (opened n count turns) (slice_get ps q)) (let e : pid + 1 + q ≡ pid + suc q = omega arith in e)

states_from : (pid count turns : ℕ) (ps : List Declared) → opening_from pid count ps ≡ map (λ (n : Mate). n.local.state) (members (opened_from pid count turns ps))
states_from pid count turns [] = refl
states_from pid count turns (p ∷ ps) = ap (λ z. opening_state pid count ∷ z) (states_from (pid + 1) count turns ps)

pub clear_from : (pid count turns : ℕ) (ps : List Declared) → IsClear (opened_from pid count turns ps)
clear_from pid count turns [] = All-nil (λ (r : Running). r.outbox ≡ [])
clear_from pid count turns (p ∷ ps) = All-cons (λ (r : Running). r.outbox ≡ []) _ _ refl (clear_from (pid + 1) count turns ps)

pub opened_length : (pid count turns : ℕ) (ps : List Declared) → length (opened_from pid count turns ps) ≡ length ps
opened_length pid count turns [] = refl
opened_length pid count turns (p ∷ ps) = ap suc (opened_length (pid + 1) count turns ps)

module _ (script : Program) where
  abbrev count : ℕ
  count = length script.procs

  abbrev of_place : ℕ → Option Declared → Option Running
  of_place q o = option_map (opened (0 + q) count script.turns) o

  at_place : (q : ℕ) → slice_get (opened_crew script) q ≡ of_place q (slice_get script.procs q)
  at_place q = opened_at 0 count script.turns script.procs q

  no_events : (q : ℕ) (o : Option Declared) → [] ≡ events_of (of_place q o)
  no_events q None = refl
  no_events q (Some p) = refl

  -- the process at q is that part of the script, opened
  pub record IsOpened (q : ℕ) (r : Running) : Type 0 where
    pub part : Declared
    pub there : slice_get script.procs q ≡ Some part
    pub is : opened q count script.turns part ≡ r

  pub opened_tells : (q : ℕ) (r : Running) → slice_get (opened_crew script) q ≡ Some r → IsOpened q r
  opened_tells q r e =
      let w : (p : Declared) × (slice_get script.procs q ≡ Some p) × (opened (0 + q) count script.turns p ≡ r) =
      mapped_tells (opened (0 + q) count script.turns) (slice_get script.procs q) r (sym (at_place q) ∙ e) in
      record { part = w.0; there = w.1; is = ap (λ n. opened n count script.turns w.0) (let f : q ≡ 0 + q = omega arith in f) ∙ w.2 }

  kept_opening : (q : ℕ) (r : Running) → slice_get (opened_crew script) q ≡ Some r → IsKeptOf script q r
  kept_opening q r e =
      let o : IsOpened q r = opened_tells q r e in
      subst (λ z. IsKeptOf script q z) o.is
      (record { process = (refl, refl, o.there); own = All-nil (IsToItself q 0); others = All-nil (λ (x : Signal). x.from.0 ≢ q); outbox = All-nil (IsLeaving q 0) })

  none_on_way : (s t : ℕ) (c : Bool) (o : Option Declared) →
      [] ≡ cond c (own_part (option_map member_of (of_place t o))) (taken_in_part (rules_of script) s (option_map member_of (of_place t o)) ++ addressed (rules_of script) t [])
  none_on_way s t true None = refl
  none_on_way s t false None = refl
  none_on_way s t true (Some p) = refl
  none_on_way s t false (Some p) = refl

  -- no signal is on its way
  opening_way : (s t : ℕ) → [] ≡ on_way (rules_of script) (members (opened_crew script)) (λ q. []) s t
  opening_way s t =
      none_on_way s t (s == t) (slice_get script.procs t)
      ∙ sym (ap (λ o. cond (s == t) (own_part o) (taken_in_part (rules_of script) s o ++ addressed (rules_of script) t [])) (slice_get-map member_of (opened_crew script) t ∙ ap (λ o. option_map member_of o) (at_place t)))

  pub opening_reached : IsBetweenVisits script (opened_crew script) []
  opening_reached = record {
    reached = record {
      machine = opening_machine (opening_of script);
      run = refl;
      at_work = record { states = states_from 0 count script.turns script.procs; queued = λ s t lt. opening_way s t };
      told = λ q. no_events q (slice_get script.procs q) ∙ sym (ap (λ o. events_of o) (at_place q));
      kept = kept_opening;
      many = opened_length 0 count script.turns script.procs;
    };
    clear = clear_from 0 count script.turns script.procs;
  }
