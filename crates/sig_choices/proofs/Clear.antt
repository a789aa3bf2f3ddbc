-- The machine of a lawful crew with empty outboxes, and which choices it refuses.
use Rattle.std.proofs.Common.{◌≡◌, ℕ, ◌^◌, Bool, true, false, not, cond, ◌&&◌, ◌||◌, List, [], ◌∷◌, map, length, Option, Some, None, is_none, is_some, refl, sym, ap, ◌∙◌, arith}
use Rattle.std.specs.Prelude.{filter, ◌==◌, nat_lt, slice_get}
use Rattle.std.specs.Option.{option_map}
use Rattle.std.proofs.lemmas.Bool.{eq-eqb, ne_eqb}
use Rattle.std.proofs.lemmas.Option.{slice_get-map}
use Rattle.sig_terms.specs.declared.term.Term.{Term}
use Rattle.sig_kinds.specs.declared.signal.Signal.{Signal}
use Rattle.sig_program.specs.Scripts.{Program}
use Rattle.sig_runs.specs.Rules.{Effect}
use Rattle.sig_runs.specs.Machine.{Machine, Applied, apply, execute, executed, handle, moved, without_oldest, is_empty}
use Rattle.sig_runs.specs.Machine.Choice.{Executes, Handles}
use Rattle.sig_runs.specs.Crew.{queued_at, crew_machine}
use Rattle.sig_runs.proofs.Delivery.{machine_at_rest}
use Rattle.sig_model.specs.declared.event.Event.{Event}
use Rattle.sig_model.specs.ProcessState.{ProcessState, is_cut}
use Rattle.sig_model.specs.Machine.{rules_of, rules_with, execution, execution_of}
use Rattle.sig_model.specs.Running.{Running, advanced, can_exec, exec_next, is_early}
use Rattle.sig_model.specs.SettledRun.{IsProcessOf, waiting_of}
use Rattle.sig_model.specs.CrewLaw.{outbox_of, whole_member, machine_of}
use Rattle.sig_choices.specs.Choosing.{oldest, may_handle, AreEmptied}
use Rattle.sig_choices.proofs.Reordering.{CrewMember, crew_member}

abbrev pub M : Program → List Running → Machine ProcessState Signal
M script crew = crew_machine (rules_of script) (map whole_member crew)

-- with empty outboxes the machine is the crew's
pub clear_machine : (script : Program) (crew : List Running) → AreEmptied crew → machine_of script crew ≡ M script crew
clear_machine script crew empty =
    machine_at_rest (rules_of script) (map whole_member crew) (λ q. outbox_of (slice_get crew q)) empty

-- the tests of the machine and those of the process are the same
refused_exec : {A B C : Type 0} (end : Option Term) (cut : Bool) (own : List Signal) (o : Option A) (f : A → B) (g : Option A → Option C) → g None ≡ None →
    cond ((is_none end && not cut) && length own == 0) (option_map f o) None ≡ None → cond (is_some end || (cut || not (is_empty own))) None (g o) ≡ None
refused_exec (Some t) cut own o f g n h = refl
refused_exec None true own o f g n h = refl
refused_exec None false (x ∷ own) o f g n h = refl
refused_exec None false [] None f g n h = n
refused_exec None false [] (Some e) f g n h = cc

refused_handle : {A : Type 0} (cut early turn : Bool) (o : Option A) → ((not cut && early) && turn) ≡ false → cond (cut || (not early || not turn)) None o ≡ None
refused_handle true early turn o h = refl
refused_handle false false turn o h = refl
refused_handle false true false o h = refl
refused_handle false true true o h = cc

empty_is : (xs : List Signal) → is_empty xs ≡ (length xs == 0)
empty_is [] = refl
empty_is (x ∷ xs) = sym (ne_eqb (length (x ∷ xs)) 0 (λ e. let f : ⊥ = omega (arith, e) in f))

module _ (script : Program) (crew : List Running) (p : ℕ) where
  abbrev m : Machine ProcessState Signal
  m = M script crew

  state_is : (o : Option Running) → slice_get crew p ≡ o → slice_get m.procs p ≡ option_map (λ (n : CrewMember). n.local.state) (crew_member o)
  state_is o at =
      slice_get-map (λ (n : CrewMember). n.local.state) (map whole_member crew) p
      ∙ ap (λ z. option_map (λ (n : CrewMember). n.local.state) z) (slice_get-map whole_member crew p ∙ ap (λ z. crew_member z) at)

  -- what is queued of s waits at the process
  pub queued_is : (r : Running) → slice_get crew p ≡ Some r → (s : ℕ) → m.queued s p ≡ waiting_of s p r
  unfolding rules_with
  queued_is r at s = ap (λ o. queued_at (rules_of script) s p o) (slice_get-map whole_member crew p ∙ ap (λ o. crew_member o) at)

  -- there is no such process
  pub none_executes : slice_get crew p ≡ None → apply (rules_of script) m (Executes p) ≡ None
  none_executes at = ap (λ o. execute (rules_of script) m p o) (state_is None at)

  pub none_handles : (s : ℕ) → slice_get crew p ≡ None → apply (rules_of script) m (Handles p s) ≡ None
  none_handles s at = ap (λ o. handle (rules_of script) m p s o (m.queued s p)) (state_is None at)

  module _ (r : Running) (there : slice_get crew p ≡ Some r) (w : IsProcessOf script p r) where
    pub state_at : slice_get m.procs p ≡ Some r.state
    state_at = state_is (Some r) there

    own_at : m.queued p p ≡ r.own
    own_at = queued_is r there p ∙ ap (λ c. cond c r.own (filter (λ (x : Signal). x.from.0 == p) r.taken_in)) (eq-eqb p p refl)

    pub part_is : execution_of p (slice_get script.procs p) r.state ≡ execution r.pid r.proc r.state
    part_is = ap (λ o. execution_of p o r.state) w.proc ∙ ap (λ q. execution q r.proc r.state) (sym w.pid)

    abbrev went : ℕ → List Signal → Option (Effect ProcessState Signal Event) → Option (Applied ProcessState Signal Event)
    went turns own o = cond (is_some r.state.tables.end || (is_cut turns r.state || not (is_empty own))) None (executed (rules_of script) m p o)

    exec_is : apply (rules_of script) m (Executes p) ≡ went script.turns (m.queued p p) (execution_of p (slice_get script.procs p) r.state)
    unfolding rules_with
    exec_is = ap (λ o. execute (rules_of script) m p o) state_at

    -- what the process can't execute, the machine can't
    pub cant_execute : exec_next r ≡ None → apply (rules_of script) m (Executes p) ≡ None
    unfolding exec_next can_exec
    cant_execute h =
        exec_is
        ∙ ap (λ own. went script.turns own (execution_of p (slice_get script.procs p) r.state)) own_at
        ∙ ap (λ n. went n r.own (execution_of p (slice_get script.procs p) r.state)) (sym w.turns)
        ∙ ap (λ o. went r.turns r.own o) part_is
        ∙ refused_exec r.state.tables.end (is_cut r.turns r.state) r.own (execution r.pid r.proc r.state) (advanced r) (λ o. executed (rules_of script) m p o) refl h

    pull_none : (s : ℕ) (xs : List Signal) → ((not (is_cut script.turns r.state) && is_early (oldest xs)) && (s == p || is_empty (m.queued p p))) ≡ false →
        handle (rules_of script) m p s (Some r.state) xs ≡ None
    unfolding rules_with
    pull_none s [] h = refl
    pull_none s (x ∷ rest) h =
        refused_handle (is_cut script.turns r.state) (nat_lt x.stamp (2 ^ 62)) (s == p || is_empty (m.queued p p))
        (Some (moved (rules_of script) m p (without_oldest s p m.queued) ((rules_of script).handle p r.state x))) h

    abbrev may : ℕ → ℕ → ℕ → List Signal → Bool → Bool
    may s n q xs c = (not (is_cut n r.state) && is_early (oldest xs)) && (s == q || c)

    -- and a signal that it can't handle, the machine can't
    pub cant_handle : (s : ℕ) → may_handle s r ≡ false → apply (rules_of script) m (Handles p s) ≡ None
    cant_handle s h =
        ap (λ o. handle (rules_of script) m p s o (m.queued s p)) state_at
        ∙ pull_none s (m.queued s p)
        (ap (λ n. may s n p (m.queued s p) (is_empty (m.queued p p))) (sym w.turns)
        ∙ ap (λ xs. may s r.turns p xs (is_empty (m.queued p p))) (queued_is r there s)
        ∙ ap (λ own. may s r.turns p (waiting_of s p r) (is_empty own)) own_at
        ∙ ap (λ c. may s r.turns p (waiting_of s p r) c) (empty_is r.own)
        ∙ ap (λ q. may s r.turns q (waiting_of s q r) (length r.own == 0)) (sym w.pid)
        ∙ h)
