-- The run of one worker is a settled run of the machine.
use Rattle.std.proofs.Common.{◌≡◌, ℕ, suc, ◌<◌, ◌≤◌, ◌⊎◌, inl, inr, List, [], ◌∷◌, ◌++◌, map, length, Bool, true, false, not, ◌&&◌, ◌||◌, Option, Some, None, refl, sym, ap, ◌∙◌, subst, append_assoc, arith, nat_le, is_none, is_some}
use Rattle.std.specs.Prelude.{All, IsSome, ◌==◌, nat_lt, slice_get}
use Rattle.std.specs.List.{list_any}
use Rattle.std.specs.Option.{option_map}
use Rattle.std.proofs.lemmas.Bool.{ne_eqb, le-leb, lt-ltb, ltb-false, or_right, cases_Bool}
use Rattle.std.proofs.lemmas.List.{append-nil}
use Rattle.std.proofs.lemmas.List.Elements.{All-head, All-weaker}
use Rattle.std.proofs.lemmas.Option.{slice_get-map, slice_get_within, same_Some}
use Rattle.sig_terms.specs.declared.term.Term.{Term}
use Rattle.sig_kinds.specs.declared.signal.Signal.{Signal}
use Rattle.sig_runs.specs.Machine.{At, is_empty}
use Rattle.sig_runs.specs.Settled.{IsAtRest, IsSettled}
use Rattle.sig_runs.specs.Still.{IsStillMember, CutsHigh, next_signal, is_low}
use Rattle.sig_runs.specs.Still.{can_handle as may_handle, can_exec as may_exec}
use Rattle.sig_runs.specs.Crew.{queued_at}
use Rattle.sig_runs.proofs.Delivery.{at_rest}
use Rattle.sig_runs.proofs.Still.{still_at_rest}
use Rattle.sig_program.specs.Scripts.{Program}
use Rattle.sig_model.specs.declared.event.Event.{Event}
use Rattle.sig_model.specs.declared.state.TheConstants.{LAST_STAMP}
use Rattle.sig_model.specs.ProcessState.{ProcessState, is_cut}
use Rattle.sig_model.specs.Executing.{executing, IsWaiting}
use Rattle.sig_model.specs.Finishing.{finished_exec}
use Rattle.sig_model.specs.Machine.{rules_of, rules_with, execution, execution_of}
use Rattle.sig_model.specs.Running.{Running, advanced, next_of, is_early, can_handle, can_exec}
use Rattle.sig_model.specs.OneWorker.{RunsTo, rests, goes, pass, opened_crew}
use Rattle.sig_model.specs.PrintedState.{is_late_signal, is_late}
use Rattle.sig_model.specs.SettledRun.{IsMachineOf, IsRunningAtRest, IsSettledRun}
use Rattle.sig_model.specs.MadeEvents.{made_in_pass, Makes}
use Rattle.sig_model.specs.MadeEvents.{none, passes}
use Rattle.sig_model.specs.Keeping.{IsToItself}
use Rattle.sig_model.specs.Still.{IsStill, IsStillCrew}
use Rattle.sig_model.proofs.Lookups.{mapped_none}
use Rattle.sig_model.proofs.StampLemmas.{stamps_kept}
use Rattle.sig_model.proofs.Waiting.{waiting_iff}
use Rattle.sig_model.proofs.Guards.{uncut_stamp, exec_due}
use Rattle.sig_model.proofs.EventLemmas.{member_of, IsPartOf, IsKeptOf}
use Rattle.sig_model.proofs.CrewLemmas.{Mate, members, at_member}
use Rattle.sig_model.proofs.ReachLemmas.{IsReached, IsBetweenVisits, rest_pass}
use Rattle.sig_model.proofs.StillLemmas.{still_pass, run_still}
use Rattle.sig_model.proofs.OpeningLemmas.{opening_reached}

can_exec_at : (r : Running) → r.state.tables.end ≡ None → is_cut r.turns r.state ≡ false → r.own ≡ [] → can_exec r ≡ true
unfolding can_exec
can_exec_at r e uncut own =
    ap (λ o. is_none o && not (is_cut r.turns r.state) && length r.own == 0) e
    ∙ ap (λ c. not c && length r.own == 0) uncut
    ∙ ap (λ (xs : List Signal). length xs == 0) own

not_early : (r : Running) → is_cut r.turns r.state ≡ false → can_handle r ≡ false → is_early (next_of r.own r.taken_in) ≡ false
unfolding can_handle
not_early r e h = ap (λ c. not c && is_early (next_of r.own r.taken_in)) (sym e) ∙ h

-- the run from a crew is determined
from_rest : (crew last : List Running) → (pass crew).1 ≡ false → RunsTo crew last → last ≡ (pass crew).0
from_rest _ _ h (rests crew k) = refl
from_rest _ last h (goes crew _ k more) = let f : true ≡ false = sym k ∙ h in absurd cc

from_move : (crew last : List Running) → (pass crew).1 ≡ true → RunsTo crew last → RunsTo (pass crew).0 last
from_move _ _ h (rests crew k) = let f : true ≡ false = sym h ∙ k in absurd cc
from_move _ last h (goes crew _ k more) = more

pub one_run : (crew a b : List Running) → RunsTo crew a → RunsTo crew b → a ≡ b
one_run _ _ b (rests crew h) other = sym (from_rest crew b h other)
one_run _ a b (goes crew _ h more) other = one_run (pass crew).0 a b more (from_move crew b h other)

module _ (script : Program) where
  pub cuts_high : CutsHigh (rules_of script)
  unfolding rules_with
  cuts_high s h =
      or_right (is_none s.tables.end && nat_le script.turns s.counts.executed) (nat_le LAST_STAMP s.counts.stamp) (le-leb LAST_STAMP s.counts.stamp h)

  same_next : (own taken : List Signal) → is_low (rules_of script) (next_signal own taken) ≡ is_early (next_of own taken)
  unfolding rules_with
  same_next (x ∷ own) taken = refl
  same_next [] (x ∷ taken) = refl
  same_next [] [] = refl

  same_empty : (own : List Signal) → is_empty own ≡ (length own == 0)
  same_empty [] = refl
  same_empty (x ∷ own) = sym (ne_eqb (suc (length own)) 0 (λ e. let f : ⊥ = omega (arith, e) in f))

  same_alive : {A : Type 0} (o : Option A) → not (is_some o) ≡ is_none o
  same_alive None = refl
  same_alive (Some x) = refl

  and_assoc : (a b c : Bool) → (a && (b && c)) ≡ (a && b && c)
  and_assoc true b c = refl
  and_assoc false b c = refl

  module _ (p : ℕ) (r : Running) (k : IsKeptOf script p r) (s : IsStill r) where
    same_cut : (rules_of script).is_cut r.state ≡ is_cut r.turns r.state
    unfolding rules_with
    same_cut = ap (λ n. is_cut n r.state) (sym k.process.1)

    no_handle : may_handle (rules_of script) (member_of r) ≡ false
    unfolding can_handle
    no_handle = ap (λ c. not c && is_low (rules_of script) (next_signal r.own r.taken_in)) same_cut ∙ ap (λ b. not (is_cut r.turns r.state) && b) (same_next r.own r.taken_in) ∙ s.handle

    same_exec : may_exec (rules_of script) (member_of r) ≡ can_exec r
    unfolding rules_with can_exec
    same_exec =
        ap (λ c. not (is_some r.state.tables.end) && (not c && is_empty r.own)) same_cut
        ∙ ap (λ b. not (is_some r.state.tables.end) && (not (is_cut r.turns r.state) && b)) (same_empty r.own)
        ∙ ap (λ a. a && (not (is_cut r.turns r.state) && length r.own == 0)) (same_alive r.state.tables.end)
        ∙ and_assoc (is_none r.state.tables.end) (not (is_cut r.turns r.state)) (length r.own == 0)

    -- an instruction that it may execute can't be executed
    idle : can_exec r ≡ true → executing r.proc r.state ≡ None
    idle h =
        mapped_none (finished_exec r.pid r.state) (executing r.proc r.state)
        (mapped_none (advanced r) (execution r.pid r.proc r.state) (sym (exec_due r h) ∙ s.exec))

    executes : (rules_of script).exec p r.state ≡ execution r.pid r.proc r.state
    unfolding rules_with
    executes = ap (λ o. execution_of p o r.state) k.process.2 ∙ ap (λ q. execution q r.proc r.state) (sym k.process.0)

    no_exec : (may_exec (rules_of script) (member_of r) ≡ false) ⊎ ((rules_of script).exec p r.state ≡ None)
    no_exec = elim (cases_Bool (can_exec r)) [
      | inl h ↦ inr (executes ∙ ap (λ o. option_map (finished_exec r.pid r.state) o) (idle h))
      | inr h ↦ inl (same_exec ∙ h)
    ]

    -- it can do nothing as the machine's process either
    pub still_member : IsStillMember (rules_of script) p (member_of r)
    unfolding rules_with
    still_member = record { no_handle = no_handle; no_exec = no_exec; from_others = k.others }

    -- its own signals aren't late while it isn't cut
    own_early : is_cut r.turns r.state ≡ false → (x : Signal) (own : List Signal) → r.own ≡ x ∷ own → nat_lt x.stamp LAST_STAMP ≡ true
    own_early uncut x own o =
        let first : IsToItself p r.state.counts.stamp x =
        All-head (IsToItself p r.state.counts.stamp) x own (subst (λ xs. All (IsToItself p r.state.counts.stamp) xs) o k.own) in
        let last : r.state.counts.stamp < LAST_STAMP = uncut_stamp r.turns r.state uncut in
        lt-ltb x.stamp LAST_STAMP (omega (arith, first.stamp, last))

    -- none waits, or the next one is late
    queue_rests : (own taken : List Signal) → is_cut r.turns r.state ≡ false → r.own ≡ own → r.taken_in ≡ taken → is_early (next_of own taken) ≡ false →
        (r.own ≡ []) × (((r.own ≡ []) × (r.taken_in ≡ [])) ⊎ (is_late r ≡ true))
    queue_rests [] [] uncut o i h = (o, inl (o, i))
    queue_rests (x ∷ own) taken uncut o i h = let f : true ≡ false = sym (own_early uncut x own o) ∙ h in absurd cc
    queue_rests [] (x ∷ taken) uncut o i h =
        let late : is_late_signal x ≡ true = le-leb LAST_STAMP x.stamp (ltb-false x.stamp LAST_STAMP h) in
        (o, inr (ap (λ xs. list_any is_late_signal xs || list_any is_late_signal r.taken_in) o ∙ ap (λ xs. list_any is_late_signal xs) i ∙ ap (λ c. c || list_any is_late_signal taken) late))

    -- it has ended, or waits
    stops : (o : Option Term) → r.state.tables.end ≡ o → is_cut r.turns r.state ≡ false → r.own ≡ [] → IsSome r.state.tables.end ⊎ IsWaiting r.proc r.state
    stops (Some reason) e uncut own = inl (ap (λ o. is_some o) e)
    stops None e uncut own = inr ((waiting_iff r.proc r.state).0 (idle (can_exec_at r e uncut own)))

    rests_by : (c : Bool) → is_cut r.turns r.state ≡ c → IsRunningAtRest r
    rests_by true e = inl e
    rests_by false e =
        let queue : (r.own ≡ []) × (((r.own ≡ []) × (r.taken_in ≡ [])) ⊎ (is_late r ≡ true)) = queue_rests r.own r.taken_in e refl refl (not_early r e s.handle) in
        inr (stops r.state.tables.end refl e queue.0, queue.1)

    pub is_resting : IsRunningAtRest r
    is_resting = rests_by (is_cut r.turns r.state) refl

  low : (p : ℕ) (r : Running) → IsKeptOf script p r → All (λ (x : Signal). (rules_of script).stamp x ≤ (rules_of script).last r.state) r.own
  unfolding rules_with
  low p r k = All-weaker (IsToItself p r.state.counts.stamp) (λ (x : Signal). x.stamp ≤ r.state.counts.stamp) (λ x h. h.stamp) r.own k.own

  same_states : (crew : List Running) → map (λ (n : Mate). n.local.state) (members crew) ≡ map (λ (r : Running). r.state) crew
  same_states [] = refl
  same_states (r ∷ rs) = ap (λ z. r.state ∷ z) (same_states rs)

  module _ (crew : List Running) (es : List (At Event)) (g : IsReached script (λ q. []) crew es) where
    -- the machine's lists at a process are what waits for it
    waiting : (s p : ℕ) (r : Running) → slice_get crew p ≡ Some r → g.machine.queued s p ≡ queued_at (rules_of script) s p (Some (member_of r))
    waiting s p r there =
        let here : slice_get (members crew) p ≡ Some (member_of r) = at_member crew p r there in
        g.at_work.queued s p (slice_get_within (members crew) p (member_of r) here)
        ∙ at_rest (rules_of script) s p [] refl (slice_get (members crew) p)
        ∙ ap (λ o. queued_at (rules_of script) s p o) here

    shown : IsMachineOf crew g.machine
    unfolding rules_with
    shown = record { states = g.at_work.states ∙ same_states crew; queued = waiting }

    state_of : (p : ℕ) (o : Option Running) (s : ProcessState) → slice_get crew p ≡ o → option_map (λ (r : Running). r.state) o ≡ Some s → IsStillCrew crew → IsAtRest (rules_of script) g.machine p s
    state_of p None s there e still = cc
    state_of p (Some r) s there e still =
        subst (λ z. IsAtRest (rules_of script) g.machine p z) (same_Some r.state s e)
        (still_at_rest (rules_of script) (stamps_kept script.turns (slice_get script.procs)) cuts_high g.machine p (member_of r) (λ f. waiting f p r there) (low p r (g.kept p r there)) (still_member p r (g.kept p r there) (still p r there)))

    settled : IsStillCrew crew → IsSettled (rules_of script) g.machine
    settled still p s at = state_of p (slice_get crew p) s refl (sym (slice_get-map (λ (r : Running). r.state) crew p) ∙ ap (λ xs. slice_get xs p) (sym shown.states) ∙ at) still

  -- these events have led to the last crew
  record HasEnded (crew last : List Running) (es : List (At Event)) : Type 0 where
    later : List (At Event)
    made : Makes crew later
    reached : IsReached script (λ q. []) last (es ++ later)

  run_ends : (crew last : List Running) (es : List (At Event)) → RunsTo crew last → IsBetweenVisits script crew es → HasEnded crew last es
  run_ends _ _ es (rests crew h) g =
      let s : ((pass crew).0 ≡ crew) × ((q : ℕ) (r : Running) → 0 ≤ q → slice_get crew q ≡ Some r → IsStill r) =
      still_pass (length crew) 0 false crew g.clear (omega arith) h in
      record {
        later = [];
        made = none crew h;
        reached = subst (λ xs. IsReached script (λ q. []) xs (es ++ [])) (sym s.0) (subst (λ xs. IsReached script (λ q. []) crew xs) (sym (append-nil es)) g.reached);
      }
  run_ends _ last es (goes crew _ h more) g =
      let made : List (At Event) = made_in_pass (length crew) 0 crew in
      let rest : HasEnded (pass crew).0 last (es ++ made) = run_ends (pass crew).0 last (es ++ made) more (rest_pass script (length crew) 0 false crew es g) in
      record {
        later = made ++ rest.later;
        made = passes crew rest.later h rest.made;
        reached = subst (λ xs. IsReached script (λ q. []) last xs) (append_assoc es made rest.later) rest.reached;
      }

  module _ (last : List Running) (e : HasEnded (opened_crew script) last []) (still : IsStillCrew last) where
    abbrev settled_run : IsSettledRun script last
    settled_run = record {
      events = e.later;
      machine = e.reached.machine;
      run = e.reached.run;
      shown = shown last e.later e.reached;
      processes = λ p r there.
          let k : IsPartOf script.turns (slice_get script.procs) p r = (e.reached.kept p r there).process in
          record { pid = k.0; turns = k.1; proc = k.2 };
      told = e.reached.told;
      settled = settled last e.later e.reached still;
      many = e.reached.many;
      resting = λ p r there. is_resting p r (e.reached.kept p r there) (still p r there);
    }

  -- the run of one worker is a settled run of the script's machine, with the events in the order of the passes
  pub one_worker_made : (last : List Running) → RunsTo (opened_crew script) last → (run : IsSettledRun script last) × Makes (opened_crew script) run.events
  one_worker_made last h =
      let e : HasEnded (opened_crew script) last [] = run_ends (opened_crew script) last [] h (opening_reached script) in
      (settled_run last e (run_still (opened_crew script) last h (opening_reached script).clear), e.made)
