-- The call law.
use Rattle.std.proofs.Common.{◌≡◌, ℕ, zero, suc, ◌+◌, ◌-◌, ◌≤◌, ◌<◌, List, [], ◌∷◌, ◌++◌, length, Bool, true, false, ◌&&◌, Option, Some, None, is_some, refl, sym, ap, subst, ◌∙◌, inl, inr, ◌⊎◌, arith}
use Rattle.std.specs.Prelude.{◌==◌, slice_get, slice_set, option_and_then}
use Rattle.std.specs.Option.{option_map_or}
use Rattle.std.specs.List.{Contains}
use Rattle.std.specs.FinMap.{get-empty}
use Rattle.std.proofs.lemmas.Bool.{cond_both, and_right}
use Rattle.std.proofs.lemmas.Option.{same_Some, MatchOption-at_some}
use Rattle.sig_terms.specs.declared.pid.Pid.{Pid}
use Rattle.sig_terms.specs.declared.reference.Ref.{Ref}
use Rattle.sig_terms.specs.declared.term.Term.{Term}
use Rattle.sig_terms.specs.declared.term.Term.TheVariants as term
use Rattle.sig_terms.specs.References.{ref_cmp}
use Rattle.sig_kinds.specs.declared.alias_mode.AliasMode.{AliasMode}
use Rattle.sig_kinds.specs.declared.alias_mode.AliasMode.TheVariants.{ReplyDemonitor}
use Rattle.sig_kinds.specs.declared.signal.Signal.{Signal}
use Rattle.sig_kinds.specs.WatchRules.{WatchState, is_held, mode_of}
use Rattle.sig_patterns.specs.declared.expression.Expr.{Expr}
use Rattle.sig_patterns.specs.Building.{value_of, is_small}
use Rattle.sig_program.specs.declared.instruction.Instr.TheVariants.{Monitor}
use Rattle.sig_program.specs.Scripts.{Declared, Program}
use Rattle.sig_runs.specs.Rules.{Effect, Rules}
use Rattle.sig_runs.specs.Machine.{Machine, At, Applied, apply, choice, IsRun}
use Rattle.sig_runs.specs.Crew.{opening_machine}
use Rattle.sig_runs.proofs.Lists.{slice_get-set_same}
use Rattle.sig_runs.proofs.Choices.{DidExecute, did_execute}
use Rattle.sig_model.specs.declared.event.Event.{Event}
use Rattle.sig_model.specs.declared.event.Did.{Did}
use Rattle.sig_model.specs.declared.event.Did.TheVariants.{Exec, From}
use Rattle.sig_model.specs.declared.event.Outcome.{Outcome}
use Rattle.sig_model.specs.declared.event.Outcome.TheVariants as outcome
use Rattle.sig_model.specs.ProcessState.{ProcessState, opening_state}
use Rattle.sig_model.specs.Bodies.{Body, ending, system_limit, badarg}
use Rattle.sig_model.specs.Executing.{with_value, with_pid, new_ref, ref_in, monitoring, exec_body, executing, executing_whole, from_mark, from_oldest}
use Rattle.sig_model.specs.Handling.{handling}
use Rattle.sig_model.specs.Finishing.{finished_exec}
use Rattle.sig_model.specs.Machine.{rules_of, rules_with, acted_at, opening_from, opening_of}
use Rattle.sig_model.proofs.Lookups.{mapped_tells}
use Rattle.sig_model.proofs.BodyLemmas.{IsWatching, IsRewatched}
use Rattle.sig_model.proofs.ExecutingLemmas.{next_body, IsMaking, next_watch}
use Rattle.sig_model.proofs.MarkerLemmas.{opened_state}
use Rattle.sig_call.specs.CallLaw.{is_kept, handles_answer, enters, entries, HasEntered, MakesCall, EnterOnce, CallsEnterOnce}
use Rattle.sig_call.proofs.CallTables.{bit, IsCall, IsClear, inserted_here}
use Rattle.sig_call.proofs.CallAnswers.{Fell, fell, fell_making, Answered, answered, handled_fell}
use Rattle.sig_call.proofs.CallMoves.{execution_by, rules_by, rules, Moves, MakerStep, maker_step}
use Rattle.sig_call.proofs.CallMoves.Moves.{stays, executes, handles}

-- what is shown of what an instruction does is shown of the effect
effect_holds : (begin : ℕ → ℕ) (I : ℕ → WatchState → Type 0) (s : ProcessState) → IsRewatched I s.counts.next_serial s.tables.watch → IsMaking I s → (pid : ℕ) (o : Option Declared) (effect : Effect ProcessState Signal Event)
    → execution_by begin pid o s ≡ Some effect → I effect.state.counts.next_serial effect.state.tables.watch
effect_holds begin I s c k pid None effect e = absurd cc
effect_holds begin I s c k pid (Some p) effect e =
    let w : (body : Body) × (next_body begin p s ≡ Some body) × (finished_exec pid s body ≡ effect) = mapped_tells (finished_exec pid s) (next_body begin p s) effect e in
    let holds : IsWatching I w.0 = MatchOption-at_some (Unit {0}) (IsWatching I) w.0 w.1 (next_watch I begin p s c k) in
    subst (λ (f : Effect ProcessState Signal Event). I f.state.counts.next_serial f.state.tables.watch) w.2 holds

-- what an event tells: the place of an execution, and the reference that was set
abbrev place_in : Did → ℕ
place_in (Exec place) = place
place_in (From sender number) = 0

abbrev value_in : Outcome → Option Term
value_in (outcome.Set value) = Some value
value_in _ = None

abbrev ref_told : Outcome → Option Ref
ref_told o = option_and_then ref_in (value_in o)

module _ (r : Ref) (s : ProcessState) where
  -- the body makes the call of this reference
  record MadeOf (q : Ref) (b : Body) : Type 0 where
    serial : s.counts.next_serial ≡ q.serial
    next : b.state.counts.next_serial ≡ s.counts.next_serial + 1
    mode : mode_of b.state.tables.watch q ≡ Some ReplyDemonitor
    held : is_held b.state.tables.watch q ≡ true

  abbrev MadeBody : Body → Type 0
  MadeBody b = MadeOf r b

  abbrev Tells : Body → Type 0
  Tells b = b.outcome ≡ outcome.Set (term.Ref r) → MadeBody b

  over_tells : (reason : Term) → Tells (ending s reason)
  over_tells reason e = let w : None ≡ Some (term.Ref r) = ap value_in e in absurd cc

  monitoring_tells : (var : List ℕ) (q : Pid) → Tells (monitoring s var (Some ReplyDemonitor) q)
  monitoring_tells var q e =
      let same : new_ref s ≡ r = same_Some (new_ref s) r (ap ref_told e) in
      subst (λ (z : Ref). MadeOf z (monitoring s var (Some ReplyDemonitor) q)) same
      (record { serial = refl; next = refl; mode = inserted_here s.tables.watch.aliases (new_ref s) ReplyDemonitor; held = ap is_some (inserted_here s.tables.watch.held (new_ref s) q.0) })

  with_pid_tells : (var : List ℕ) (t : Term) → Tells (with_pid s t (monitoring s var (Some ReplyDemonitor)))
  with_pid_tells var (term.Pid q) = monitoring_tells var q
  with_pid_tells var _ = over_tells badarg

  made_body : (var : List ℕ) (target : Expr) → Tells (with_value s target (λ t. with_pid s t (monitoring s var (Some ReplyDemonitor))))
  made_body var target =
      let v : Term = value_of s.tables.env target in
      cond_both (is_small v) (Some v) None (λ o. Tells (option_map_or (λ t. with_pid s t (monitoring s var (Some ReplyDemonitor))) o (ending s system_limit))) (λ b. with_pid_tells var v) (λ b. over_tells system_limit)

-- a process of the script is there at the opening
opening_there : (first count : ℕ) (ps : List Declared) (q : ℕ) (p : Declared) → slice_get ps q ≡ Some p → (s : ProcessState) × (slice_get (opening_from first count ps) q ≡ Some s)
opening_there first count [] q p e = absurd cc
opening_there first count (d ∷ ps) zero p e = (opening_state first count, refl)
opening_there first count (d ∷ ps) (suc q) p e = opening_there (first + 1) count ps q p e

module _ (r : Ref) where
  -- as long as r isn't made, it is clear
  abbrev Unmade : ℕ → WatchState → Type 0
  Unmade n w = n ≤ r.serial → IsClear r w

  unmade_fallen : (s : ProcessState) → Unmade s.counts.next_serial s.tables.watch → IsRewatched Unmade s.counts.next_serial s.tables.watch
  unmade_fallen s u = record {
    same = u;
    demonitored = λ q h. (((fell r s).demonitored q).0).clear (u h);
    dealiased = λ q h. (((fell r s).dealiased q).0).clear (u h);
    replied = λ q h. (((fell r s).replied q).0).clear (u h);
    bearing = λ b h. (((fell r s).bearing b).0).clear (u h);
    ended = λ h. (fell r s).ended.0.clear (u h);
  }

  unmade_making : (s : ProcessState) → Unmade s.counts.next_serial s.tables.watch → IsMaking Unmade s
  unmade_making s u = record {
    alone = λ h. u (omega (arith, h));
    monitored = λ target mode h. (((fell_making r s (λ e. omega (arith, h, e))).monitored target mode).0).clear (u (omega (arith, h)));
    aliased = λ reply h. (((fell_making r s (λ e. omega (arith, h, e))).aliased reply).0).clear (u (omega (arith, h)));
  }

  -- the next serial doesn't fall
  abbrev Rises : ℕ → ℕ → WatchState → Type 0
  Rises least n w = least ≤ n

  rises_fallen : (s : ProcessState) → IsRewatched (Rises s.counts.next_serial) s.counts.next_serial s.tables.watch
  rises_fallen s = record { same = omega arith; demonitored = λ q. omega arith; dealiased = λ q. omega arith; replied = λ q. omega arith; bearing = λ b. omega arith; ended = omega arith }

  rises_making : (s : ProcessState) → IsMaking (Rises s.counts.next_serial) s
  rises_making s = record { alone = omega arith; monitored = λ target mode. omega arith; aliased = λ reply. omega arith }

  module _ (begin : ℕ → ℕ) (script : Program) where
    -- what the maker does to a reference that it hasn't made
    unmade_moves : (s t : ProcessState) (n : ℕ) → Moves begin script r s t n → s.counts.next_serial ≤ r.serial → Unmade s.counts.next_serial s.tables.watch → (n ≡ 0) × Unmade t.counts.next_serial t.tables.watch
    unmade_moves s t n (stays e z) low u = (z, subst (λ (x : ProcessState). Unmade x.counts.next_serial x.tables.watch) e u)
    unmade_moves s t n (executes effect is lands z) low u =
        (z, subst (λ (x : ProcessState). Unmade x.counts.next_serial x.tables.watch) lands (effect_holds begin Unmade s (unmade_fallen s u) (unmade_making s u) r.owner.0 (slice_get script.procs r.owner.0) effect is))
    unmade_moves s t n (handles x lands z) low u =
        let a : Answered r s (handling r.owner.0 s x) x.kind = answered r s (inl (u low).mode) r.owner.0 x in
        let none : bit (is_held s.tables.watch r) ≡ 0 = ap bit (u low).held in
        let f : Fell r s (handling r.owner.0 s x).state.counts.next_serial (handling r.owner.0 s x).state.tables.watch = handled_fell r s r.owner.0 x in
        (omega (arith, z, a.held, none), subst (λ (y : ProcessState). Unmade y.counts.next_serial y.tables.watch) lands (λ h. f.0.clear (u (omega (arith, low)))))

    rises_moves : (s t : ProcessState) (n : ℕ) → Moves begin script r s t n → s.counts.next_serial ≤ t.counts.next_serial
    rises_moves s t n (stays e z) = let same : s.counts.next_serial ≡ t.counts.next_serial = ap (λ (x : ProcessState). x.counts.next_serial) e in omega (arith, same)
    rises_moves s t n (executes effect is lands z) =
        subst (λ (x : ProcessState). s.counts.next_serial ≤ x.counts.next_serial) lands
        (effect_holds begin (Rises s.counts.next_serial) s (rises_fallen s) (rises_making s) r.owner.0 (slice_get script.procs r.owner.0) effect is)
    rises_moves s t n (handles x lands z) = subst (λ (y : ProcessState). s.counts.next_serial ≤ y.counts.next_serial) lands (handled_fell r s r.owner.0 x).1

    -- a call that is made: what enters by one event, and what may still enter, is no more than might before
    record Made (s : ProcessState) : Type 0 where
      made : r.serial < s.counts.next_serial
      call : IsCall r s.tables.watch

    record Pays (s t : ProcessState) (n : ℕ) : Type 0 where
      still : Made t
      paid : n + bit (is_held t.tables.watch r) ≤ bit (is_held s.tables.watch r)

    made_moves : (s t : ProcessState) (n : ℕ) → Moves begin script r s t n → Made s → Pays s t n
    made_moves s t n (stays e z) k = subst (λ (x : ProcessState). Pays s x n) e (record { still = k; paid = omega (arith, z) })
    made_moves s t n (executes effect is lands z) k =
        let f : Fell r s effect.state.counts.next_serial effect.state.tables.watch =
        effect_holds begin (Fell r s) s (fell r s) (fell_making r s (λ e. omega (arith, e, k.made))) r.owner.0 (slice_get script.procs r.owner.0) effect is in
        subst (λ (x : ProcessState). Pays s x n) lands
        (record { still = record { made = omega (arith, k.made, f.1); call = f.0.call k.call }; paid = omega (arith, z, f.0.held) })
    made_moves s t n (handles x lands z) k =
        let a : Answered r s (handling r.owner.0 s x) x.kind = answered r s k.call r.owner.0 x in
        let f : Fell r s (handling r.owner.0 s x).state.counts.next_serial (handling r.owner.0 s x).state.tables.watch = handled_fell r s r.owner.0 x in
        subst (λ (y : ProcessState). Pays s y n) lands
        (record { still = record { made = omega (arith, k.made, f.1); call = a.call }; paid = omega (arith, z, a.held) })

    -- the events of a run, from a machine whose maker stands at s
    abbrev At_maker : Machine ProcessState Signal → ProcessState → Type 0
    At_maker m s = slice_get m.procs r.owner.0 ≡ Some s

    after_made : (es : List (At Event)) (m end : Machine ProcessState Signal) (run : IsRun (rules begin script r) m es end) (s : ProcessState) → At_maker m s → Made s → entries (rules begin script r) r m es end run ≤ bit (is_held s.tables.watch r)
    after_made [] m end run s at k = omega arith
    after_made (a ∷ later) m end run s at k =
        let step : MakerStep begin script r m run.0 a s = maker_step begin script r m run.0 a s at run.1 in
        let pays : Pays s step.after (bit (enters r m a)) = made_moves s step.after (bit (enters r m a)) step.moves k in
        let rest : entries (rules begin script r) r run.0 later end run.2 ≤ bit (is_held step.after.tables.watch r) = after_made later run.0 end run.2 step.after step.at pays.still in
        omega (arith, rest, pays.paid)

    -- one of the events makes the call
    abbrev MadeIn : List (At Event) → Type 0
    MadeIn [] = ⊥
    MadeIn (a ∷ later) = MakesCall script r a ⊎ MadeIn later

    made_in : (es : List (At Event)) (a : At Event) → Contains es a → MakesCall script r a → MadeIn es
    made_in [] a h k = absurd (omega (arith, h.1))
    made_in (b ∷ es) a (zero, lt, e) k = inl (subst (λ (z : At Event). MakesCall script r z) (sym e) k)
    made_in (b ∷ es) a (suc i, lt, e) k = inr (made_in es a (i, omega (arith, lt), e) k)

    -- what the effect of the instruction makes of the maker
    record Makes (s t : ProcessState) : Type 0 where
      serial : s.counts.next_serial ≡ r.serial
      made : Made t

    makes : (s : ProcessState) (a : At Event) (k : MakesCall script r a) (body : Body) → next_body begin k.process s ≡ Some body → a.event ≡ (finished_exec r.owner.0 s body).event → Makes s (finished_exec r.owner.0 s body).state
    makes s a k body can is =
        let place : k.place ≡ s.counts.place = sym (ap place_in k.did) ∙ ap (λ (z : Event). place_in z.did) is in
        let told : body.outcome ≡ outcome.Set (term.Ref r) = sym (ap (λ (z : Event). z.outcome) is) ∙ k.made in
        let instr : slice_get k.process.instrs (s.counts.place - 1) ≡ Some (Monitor k.var k.target (Some ReplyDemonitor)) = sym (ap (λ n. slice_get k.process.instrs (n - 1)) place) ∙ k.instr in
        let same : with_value s k.target (λ t. with_pid s t (monitoring s k.var.0 (Some ReplyDemonitor))) ≡ body =
        same_Some (with_value s k.target (λ t. with_pid s t (monitoring s k.var.0 (Some ReplyDemonitor)))) body (sym (ap (exec_body begin k.process s) instr) ∙ can) in
        let m : MadeBody r s body = subst (λ (b : Body). b.outcome ≡ outcome.Set (term.Ref r) → MadeBody r s b) same (made_body r s k.var.0 k.target) told in
        record { serial = m.serial; made = record { made = omega (arith, m.serial, m.next); call = inr (m.mode, m.held) } }

    makes_by : (s : ProcessState) (a : At Event) (k : MakesCall script r a) (effect : Effect ProcessState Signal Event) → execution_by begin r.owner.0 (Some k.process) s ≡ Some effect → a.event ≡ effect.event → Makes s effect.state
    makes_by s a k effect e is =
        let w : (body : Body) × (next_body begin k.process s ≡ Some body) × (finished_exec r.owner.0 s body ≡ effect) = mapped_tells (finished_exec r.owner.0 s) (next_body begin k.process s) effect e in
        subst (λ (f : Effect ProcessState Signal Event). a.event ≡ f.event → Makes s f.state) w.2 (makes s a k w.0 w.1) is

    -- the event by which the call is made
    record Making (m next : Machine ProcessState Signal) (a : At Event) (s : ProcessState) : Type 0 where
      after : ProcessState
      at : At_maker next after
      makes : Makes s after
      none : bit (enters r m a) ≡ 0

    making : (m next : Machine ProcessState Signal) (a : At Event) (s : ProcessState) → At_maker m s → MakesCall script r a → apply (rules begin script r) m (choice a.pid ((rules begin script r).did a.event)) ≡ Some (record { machine = next; event = a.event })
        → Making m next a s
    unfolding rules_with
    making old next a s at k h =
        let gives : Applied ProcessState Signal Event = record { machine = next; event = a.event } in
        let d : DidExecute (rules begin script r) old a.pid (slice_get old.procs a.pid) gives =
        did_execute (rules begin script r) old a.pid (slice_get old.procs a.pid) gives (subst (λ (z : Did). apply (rules begin script r) old (choice a.pid (acted_at z)) ≡ Some gives) k.did h) in
        let here : d.state ≡ s = same_Some d.state s (sym d.at ∙ ap (λ p. slice_get old.procs p) k.maker ∙ at) in
        let defined : execution_by begin r.owner.0 (Some k.process) s ≡ Some d.effect =
        subst (λ (o : Option Declared). execution_by begin r.owner.0 o s ≡ Some d.effect) k.part
        (subst (λ (z : ProcessState). execution_by begin r.owner.0 (slice_get script.procs r.owner.0) z ≡ Some d.effect) here
        (subst (λ p. execution_by begin p (slice_get script.procs p) d.state ≡ Some d.effect) k.maker d.defined)) in
        record {
          after = d.effect.state;
          at = ap (λ (z : Applied ProcessState Signal Event). slice_get z.machine.procs r.owner.0) d.is
              ∙ ap (λ p. slice_get (slice_set old.procs p d.effect.state) r.owner.0) k.maker
              ∙ slice_get-set_same old.procs r.owner.0 d.effect.state s at;
          makes = makes_by s a k d.effect defined (ap (λ (z : Applied ProcessState Signal Event). z.event) d.is);
          none = ap bit (and_right (a.pid == r.owner.0) (is_kept a.event.outcome && handles_answer r (λ sender. old.queued sender a.pid) a.event.did)
              (and_right (is_kept a.event.outcome) (handles_answer r (λ sender. old.queued sender a.pid) a.event.did) (ap (handles_answer r (λ sender. old.queued sender a.pid)) k.did)));
        }

    -- before it is made the next serial isn't above it
    unmade_before : (es : List (At Event)) (m end : Machine ProcessState Signal) (run : IsRun (rules begin script r) m es end) (s : ProcessState) → At_maker m s → MadeIn es → s.counts.next_serial ≤ r.serial
    unmade_before [] m end run s at h = absurd h
    unmade_before (a ∷ later) m end run s at (inl k) = let w : Making m run.0 a s = making m run.0 a s at k run.1 in omega (arith, w.makes.serial)
    unmade_before (a ∷ later) m end run s at (inr h) =
        let step : MakerStep begin script r m run.0 a s = maker_step begin script r m run.0 a s at run.1 in
        omega (arith, rises_moves s step.after (bit (enters r m a)) step.moves, unmade_before later run.0 end run.2 step.after step.at h)

    one_at_most : (b : Bool) → bit b ≤ 1
    one_at_most true = omega arith
    one_at_most false = omega arith

    law : (es : List (At Event)) (m end : Machine ProcessState Signal) (run : IsRun (rules begin script r) m es end) (s : ProcessState) → At_maker m s → Unmade s.counts.next_serial s.tables.watch → MadeIn es
        → entries (rules begin script r) r m es end run ≤ 1
    law [] m end run s at u h = absurd h
    law (a ∷ later) m end run s at u (inl k) =
        let w : Making m run.0 a s = making m run.0 a s at k run.1 in
        let rest : entries (rules begin script r) r run.0 later end run.2 ≤ bit (is_held w.after.tables.watch r) = after_made later run.0 end run.2 w.after w.at w.makes.made in
        omega (arith, rest, w.none, one_at_most (is_held w.after.tables.watch r))
    law (a ∷ later) m end run s at u (inr h) =
        let step : MakerStep begin script r m run.0 a s = maker_step begin script r m run.0 a s at run.1 in
        let low : s.counts.next_serial ≤ r.serial = unmade_before (a ∷ later) m end run s at (inr h) in
        let moved : (bit (enters r m a) ≡ 0) × Unmade step.after.counts.next_serial step.after.tables.watch = unmade_moves s step.after (bit (enters r m a)) step.moves low u in
        let rest : entries (rules begin script r) r run.0 later end run.2 ≤ 1 = law later run.0 end run.2 step.after step.at moved.1 h in
        omega (arith, rest, moved.0)

    -- a run of both parts, in which as many answers enter as in the two
    record Joined (earlier later : List (At Event)) (m middle end : Machine ProcessState Signal) (first : IsRun (rules begin script r) m earlier middle) (second : IsRun (rules begin script r) middle later end) : Type 0 where
      run : IsRun (rules begin script r) m (earlier ++ later) end
      sum : entries (rules begin script r) r m (earlier ++ later) end run ≡ entries (rules begin script r) r m earlier middle first + entries (rules begin script r) r middle later end second

    joined : (earlier later : List (At Event)) (m middle end : Machine ProcessState Signal) (first : IsRun (rules begin script r) m earlier middle) (second : IsRun (rules begin script r) middle later end) → Joined earlier later m middle end first second
    joined [] later m middle end first second =
        let here : (z : IsRun (rules begin script r) m later end) × (entries (rules begin script r) r m later end z ≡ entries (rules begin script r) r middle later end second) =
        subst (λ (x : Machine ProcessState Signal). (g : IsRun (rules begin script r) x later end) → (z : IsRun (rules begin script r) m later end) × (entries (rules begin script r) r m later end z ≡ entries (rules begin script r) r x later end g))
        first (λ g. (g, refl)) second in
        record { run = here.0; sum = omega (arith, here.1) }
    joined (a ∷ earlier) later m middle end first second =
        let rest : Joined earlier later first.0 middle end first.2 second = joined earlier later first.0 middle end first.2 second in
        record { run = (first.0, first.1, rest.run); sum = omega (arith, rest.sum) }

-- an answer that has entered with some message is counted
entered_counts : (by : Rules ProcessState Signal Event) (r : Ref) (message : Term) (m : Machine ProcessState Signal) (es : List (At Event)) (end : Machine ProcessState Signal) (run : IsRun by m es end) →
    HasEntered by r message m es end run → 1 ≤ entries by r m es end run
entered_counts by r message m [] end run h = absurd h
entered_counts by r message m (a ∷ later) end run (inl e) = let one : bit (enters r m a) ≡ 1 = ap bit e.0 in omega (arith, one)
entered_counts by r message m (a ∷ later) end run (inr h) = omega (arith, entered_counts by r message run.0 later end run.2 h)

-- the opening of a script whose process makes a call
module _ (begin : ℕ → ℕ) (script : Program) where
  abbrev opened : Machine ProcessState Signal
  opened = opening_machine (opening_of script)

  once : (events : List (At Event)) (end : Machine ProcessState Signal) (run : IsRun (rules_by begin script) opened events end) (r : Ref) (a : At Event) → Contains events a → MakesCall script r a
      → entries (rules_by begin script) r opened events end run ≤ 1
  once events end run r a h k =
      let o : (s : ProcessState) × (slice_get (opening_of script) r.owner.0 ≡ Some s) = opening_there 0 (length script.procs) script.procs r.owner.0 k.process k.part in
      let clear : IsClear r (opening_state r.owner.0 (length script.procs)).tables.watch = record { held = ap is_some (get-empty {X = ℕ} ref_cmp r); mode = get-empty {X = AliasMode} ref_cmp r } in
      law r begin script events opened end run o.0 o.1
      (subst (λ (z : ProcessState). Unmade r z.counts.next_serial z.tables.watch) (opened_state script r.owner.0 o.0 o.1) (λ low. clear))
      (made_in r begin script events a h k)

  behind : (earlier later : List (At Event)) (middle end : Machine ProcessState Signal) (first : IsRun (rules_by begin script) opened earlier middle) (second : IsRun (rules_by begin script) middle later end)
      (r : Ref) (a : At Event) → Contains (earlier ++ later) a → MakesCall script r a → entries (rules_by begin script) r opened earlier middle first + entries (rules_by begin script) r middle later end second ≤ 1
  behind earlier later middle end first second r a h k =
      let j : Joined r begin script earlier later opened middle end first second = joined r begin script earlier later opened middle end first second in
      omega (arith, j.sum, once (earlier ++ later) end j.run r a h k)

  enter_once : EnterOnce script (rules_by begin script)
  enter_once = record {
    once = once;
    behind = behind;
    taken = λ earlier later middle end t first second r a h k message entered took.
        omega (arith, entered_counts (rules_by begin script) r message opened earlier middle first entered, behind earlier (t ∷ later) middle end first second r a h k);
  }

-- in the runs that look at all messages, and in those that look from the marks on
pub calls_once : (script : Program) → CallsEnterOnce script
unfolding executing_whole
calls_once script = enter_once from_oldest script

pub marked_calls_once : (script : Program) → EnterOnce script (rules_of script)
unfolding executing rules_with
marked_calls_once script = enter_once from_mark script
