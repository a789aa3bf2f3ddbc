-- What the calls of a process keep, and what they lead to.
use Rattle.std.proofs.Common.{◌≡◌, ℕ, ◌-◌, ◌<◌, ◌^◌, List, [], ◌∷◌, length, true, false, Option, Some, None, refl, sym, ap, ◌∙◌, subst, arith}
use Rattle.std.specs.Prelude.{All, IfSome, IfOk, IsSome, IsSomeAnd, MatchOption, MatchResult, Result, Ok, Err, slice_get, is_some, if◌then◌else◌}
use Rattle.std.specs.Option.{option_map}
use Rattle.std.proofs.lemmas.List.Elements.{All-nil, All-head, All-tail}
use Rattle.std.proofs.lemmas.Option.{slice_get_within, get_or_from_slice_get}
use Rattle.sig_terms.specs.declared.term.Term.{Term}
use Rattle.sig_kinds.specs.declared.signal.Signal.{Signal}
use Rattle.sig_kinds.specs.SignalList.{SignalList}
use Rattle.sig_kinds.specs.Pushes.{IsPush}
use Rattle.sig_kinds.specs.declared.signals.Push.{Push}
use Rattle.sig_kinds.specs.declared.signals.Push.TheVariants.{Added, Memory}
use Rattle.sig_kinds.specs.SignalNames.{IsSignalBelow}
use Rattle.sig_program.specs.declared.instruction.Instr.{Instr}
use Rattle.sig_program.specs.Scripts.{Declared, Program, IsProcBelow, IsWithin, IsScriptWithin}
use Rattle.sig_runs.specs.Rules.{Effect}
use Rattle.sig_inner.specs.InnerQueue.{InnerQueue, opened as no_queue}
use Rattle.sig_inner.specs.Receiving.{is_saved, passed}
use Rattle.sig_model.specs.declared.event.Event.{Event}
use Rattle.sig_model.specs.declared.state.TheConstants.{LAST_STAMP}
use Rattle.sig_model.specs.ProcessState.{ProcessState}
use Rattle.sig_model.specs.Machine.{handling_of}
use Rattle.sig_model.specs.Running.{Running, opened, advanced, can_exec, can_handle, exec_next, handle_next, handled_first, next_of}
use Rattle.sig_model.specs.Keeping.{IsArriving, IsLeaving, IsKeeping}
use Rattle.sig_model.specs.Executing.{SkipsNone}
use Rattle.sig_model.proofs.SkipLemmas.{next_same, waits_next}
use Rattle.sig_model.proofs.Guards.{CanExec, CanHandle, can_exec_tells, can_handle_tells, exec_due, handle_due}
use Rattle.sig_model.proofs.KeepLemmas.{opened_keeps, arrived_keeps, outbox_keeps, leaving_arrives, exec_keeps, handle_keeps}
use Rattle.sig_process.specs.declared.executing.Exec.{Exec}
use Rattle.sig_process.specs.declared.executing.Exec.TheVariants.{Stepped, Waiting}
use Rattle.sig_process.specs.declared.progress.Progress.{Progress}
use Rattle.sig_process.specs.Standing.{Standing}
use Rattle.sig_process.specs.Progressing.{state_of, running_of, standing_of, IsSameButRoom, HasAdvanced}
use Rattle.sig_process.specs.Committing.{HasHandled}
use Rattle.sig_process.specs.Soundness.{IsSaved, IsSound}
use Rattle.sig_process.specs.Executions.{IsExecDue, IsHandleDue, IsSameButRoomAndPlace, HasExecuted, HasGone, HasHandledNext}
use Rattle.sig_process.specs.Steps.{IsExec, IsWholeExec, IsHandled}
use Rattle.sig_process.proofs.SavedPlace.{unsaved_none, unsaved_passes}

-- where no place is saved
pub unsaved : (i : Option Instr) (p : Progress) → is_saved p.tables.inner.queue.last ≡ false → IsSaved i p
unsaved i p e = record { none = unsaved_passes i p.tables.inner.queue p.tables.env e; ended = λ _. unsaved_none p.tables.inner.queue.last e }

-- the process as its part of a script opens it
pub opened_sound : (pid count turns : ℕ) (proc : Declared) (p : Progress) → pid < count → IsWithin proc → IsProcBelow count proc →
    running_of pid count turns proc p ≡ opened pid count turns proc → p.tables.inner.queue ≡ no_queue pid → IsSound pid count turns proc p
opened_sound pid count turns proc p lt within below is queue = record {
  keeps = subst IsKeeping (sym is) (opened_keeps pid count turns proc lt within below);
  owner = ap (λ (q : InnerQueue). q.owner) queue;
  saved = unsaved (slice_get proc.instrs (p.counts.place - 1)) p (ap (λ (q : InnerQueue). is_saved q.last) queue);
}

-- the pids in a script's processes
pub pids_below : (script : Program) (pid count : ℕ) (d proc : Declared) → IsScriptWithin script → slice_get script.procs pid ≡ Some d → proc ≡ d → count ≡ length script.procs →
    IsProcBelow count proc
pids_below script pid count d proc sound there copy same =
    let procs : List Declared = script.procs in
    let below : IsProcBelow (length procs) d =
    subst (IsProcBelow (length procs)) (get_or_from_slice_get procs pid d d there) (sound.pids pid d (slice_get_within procs pid d there)) in
    subst (λ n. IsProcBelow n proc) (sym same) (subst (IsProcBelow (length procs)) (sym copy) below)

module _ (pid count turns : ℕ) (proc : Declared) where
  abbrev runs : Progress → Running
  runs p = running_of pid count turns proc p

  abbrev here : Progress → Option Instr
  here p = slice_get proc.instrs (p.counts.place - 1)

  module _ (before after : Progress) where
    pub advanced_is : (e : Effect ProcessState Signal Event) → HasAdvanced pid before after e → runs after ≡ advanced (runs before) e
    advanced_is e a = rw (a.state, a.events, a.handled, a.own, a.taken_in, a.outbox) refl

    pub unmoved_is : IsSameButRoomAndPlace before after → runs after ≡ runs before
    unmoved_is u = rw (u.state, u.events, u.handled, u.own, u.taken_in, u.outbox) refl

    pub same_unmoved : IsSameButRoom before after → IsSameButRoomAndPlace before after
    same_unmoved s = record {
      state = s.state;
      owner = ap (λ (q : InnerQueue). q.owner) s.queue;
      events = s.events;
      handled = s.handled;
      own = s.own;
      taken_in = s.taken_in;
      outbox = s.outbox;
    }

    pub same_is : IsSameButRoom before after → standing_of pid count turns proc after ≡ standing_of pid count turns proc before
    same_is s =
        ap (λ (r : Running). record { running = r; saved = passed after.tables.inner.queue.last }) (unmoved_is (same_unmoved s))
        ∙ ap (λ (q : InnerQueue). record { running = runs before; saved = passed q.last }) s.queue

    -- all is as before, but for the saved place
    pub unmoved_sound : IsSound pid count turns proc before → IsSameButRoomAndPlace before after → IsSaved (here after) after → IsSound pid count turns proc after
    unmoved_sound k u s = record { keeps = subst IsKeeping (sym (unmoved_is u)) k.keeps; owner = u.owner ∙ k.owner; saved = s }

    pub saved_same : IsSameButRoom before after → IsSaved (here before) before → IsSaved (here after) after
    saved_same s k =
        let place : after.counts.place ≡ before.counts.place = ap (λ (t : ProcessState). t.counts.place) s.state in
        let env = ap (λ (t : ProcessState). t.tables.env) s.state in
        let end : after.tables.end ≡ before.tables.end = ap (λ (t : ProcessState). t.tables.end) s.state in
        record {
          none = rw (place, s.queue, env) k.none;
          ended = λ some. ap (λ (q : InnerQueue). passed q.last) s.queue ∙ k.ended (subst IsSome end some);
        }

    pub same_sound : IsSound pid count turns proc before → IsSameButRoom before after → IsSound pid count turns proc after
    same_sound k s = unmoved_sound k (same_unmoved s) (saved_same s k.saved)

    -- the next instruction may be executed
    pub exec_is_due : IsSound pid count turns proc before → turns < 2 ^ 32 → can_exec (runs before) ≡ true → IsExecDue proc before
    exec_is_due k few h =
        let can : CanExec (runs before) = can_exec_tells (runs before) h in
        record { within = k.keeps.within; bounds = k.keeps.bounds; stamp = can.stamp; turns = omega (arith, can.turns, few); alive = can.alive; owner = k.owner ∙ sym k.keeps.owner; saved = k.saved }

    pub executed_next : can_exec (runs before) ≡ true → HasExecuted pid proc before after → exec_next (runs before) ≡ Some (runs after)
    executed_next h x =
        exec_due (runs before) h ∙ ap (option_map (advanced (runs before))) x.due ∙ ap Some (sym (advanced_is x.effect x.advanced))

    pub exec_tells : (how : Exec) → can_exec (runs before) ≡ true → HasGone pid proc before after how → IsExec (standing_of pid count turns proc before) (standing_of pid count turns proc after) how
    exec_tells Stepped h x = (executed_next h x, unsaved_none after.tables.inner.queue.last x.unsaved)
    exec_tells Waiting h x = (x.waits, unmoved_is x.unmoved, x.saved, omega (arith, x.saved, x.within))

    pub exec_sound : (how : Exec) → IsSound pid count turns proc before → can_exec (runs before) ≡ true → HasGone pid proc before after how → IsSaved (here after) after →
        IsSound pid count turns proc after
    exec_sound Stepped k h x s = record {
      keeps = exec_keeps (runs before) (runs after) k.keeps (executed_next h x);
      owner = x.advanced.owner ∙ k.owner;
      saved = s;
    }
    exec_sound Waiting k h x s = unmoved_sound k x.unmoved s

    -- the next signal may be handled
    pub handle_is_due : IsSound pid count turns proc before → can_handle (runs before) ≡ true → IsHandleDue proc before
    handle_is_due k h =
        let can : CanHandle (runs before) = can_handle_tells (runs before) h in
        record {
          bounds = k.keeps.bounds;
          stamp = can.stamp;
          next = subst (λ (o : Option Signal). IsSomeAnd o (λ x. x.stamp < LAST_STAMP)) (sym can.is_next) can.early;
          saved = k.saved;
        }

    handled_by : (x : Signal) (own taken : List Signal) → before.own.items ≡ own → before.taken_in.items ≡ taken →
        HasHandled pid before after x (handling_of pid (state_of before) x) → handled_first (runs before) own taken ≡ Some (runs after)
    handled_by x (y ∷ ys) taken o t e =
        let due : Some y ≡ Some x = sym (ap (λ xs. next_of xs before.taken_in.items) o) ∙ e.next in
        let same : y ≡ x = cc in
        rw (same, e.state, e.events, e.handled, e.own, e.taken_in, e.outbox, o) refl
    handled_by x [] (y ∷ ys) o t e =
        let due : Some y ≡ Some x = sym (ap (λ xs. next_of xs (y ∷ ys)) o) ∙ sym (ap (λ xs. next_of before.own.items xs) t) ∙ e.next in
        let same : y ≡ x = cc in
        rw (same, e.state, e.events, e.handled, e.own, e.taken_in, e.outbox, o, t) refl
    handled_by x [] [] o t e =
        let due : None ≡ Some x = sym (ap (λ xs. next_of xs []) o) ∙ sym (ap (λ xs. next_of before.own.items xs) t) ∙ e.next in
        cc

    handled_next : can_handle (runs before) ≡ true →
        HasHandledNext pid before after → handle_next (runs before) ≡ Some (runs after)
    handled_next h x =
        let can : CanHandle (runs before) = can_handle_tells (runs before) h in
        handle_due (runs before) h
        ∙ handled_by can.next before.own.items before.taken_in.items refl refl
        (subst (λ (o : Option Signal). IfSome o (λ x. HasHandled pid before after x (handling_of pid (state_of before) x))) can.is_next x.handled)

    pub handle_tells : can_handle (runs before) ≡ true →
        HasHandledNext pid before after →
        IsHandled (standing_of pid count turns proc before) (standing_of pid count turns proc after)
    handle_tells h x = (handled_next h x, x.saved.saved)

    ended_unsaved : (o : Option Term) (n m : ℕ) → n ≡ (if is_some o then 0 else m) → IsSome o → n ≡ 0
    ended_unsaved (Some reason) n m e some = e
    ended_unsaved None n m e some = cc

    pub handle_sound : IsSound pid count turns proc before → can_handle (runs before) ≡ true →
        HasHandledNext pid before after →
        IsSound pid count turns proc after
    handle_sound k h x = record {
      keeps = handle_keeps (runs before) (runs after) k.keeps (handled_next h x);
      owner = x.saved.owner ∙ k.owner;
      saved = record {
        none = rw x.saved.place (x.saved.none (here before) k.saved.none);
        ended = ended_unsaved after.tables.end (passed after.tables.inner.queue.last) (passed before.tables.inner.queue.last) x.saved.saved;
      };
    }

    -- the answers of both
    pub exec_keeps_sound : {E : Type 0} (o : Result Exec E) → IsSound pid count turns proc before → can_exec (runs before) ≡ true →
        MatchResult o (HasGone pid proc before after) (λ _. IsSameButRoomAndPlace before after) → IsSaved (here after) after → IsSound pid count turns proc after
    exec_keeps_sound (Ok how) k h x s = exec_sound how k h x s
    exec_keeps_sound (Err _) k h u s = unmoved_sound k u s

    pub handle_keeps_sound : {T E : Type 0} (o : Result T E) → IsSound pid count turns proc before → can_handle (runs before) ≡ true →
        MatchResult o (λ _. HasHandledNext pid before after) (λ _. IsSameButRoom before after) → IsSound pid count turns proc after
    handle_keeps_sound (Ok _) k h x = handle_sound k h x
    handle_keeps_sound (Err _) k h same = same_sound k same

  -- what they tell of how the process stood
  module _ {E : Type 0} (o : Result Exec E) (stood : Standing) (after : Progress) where
    abbrev pub exec_answer : Type 0
    exec_answer = MatchResult o (IsExec stood (standing_of pid count turns proc after)) (λ _. runs after ≡ stood.running)

  module _ (before after : Progress) where
    whole_tells : (how : Exec) → IsWithin proc → can_exec (runs before) ≡ true → SkipsNone proc (state_of before) → HasGone pid proc before after how →
        IsWholeExec (standing_of pid count turns proc before) (standing_of pid count turns proc after) how
    whole_tells Stepped w h none x = next_same (runs before) w none ∙ executed_next before after h x
    whole_tells Waiting w h none x = next_same (runs before) w none ∙ waits_next (runs before) h x.waits

    pub whole_tells_so : {E : Type 0} (o : Result Exec E) → IsWithin proc → can_exec (runs before) ≡ true → SkipsNone proc (state_of before) → MatchResult o (HasGone pid proc before after) (λ _. IsSameButRoomAndPlace before after) →
        IfOk o (IsWholeExec (standing_of pid count turns proc before) (standing_of pid count turns proc after))
    whole_tells_so (Ok how) w h none x = whole_tells how w h none x
    whole_tells_so (Err _) w h none u = tt

  module _ {T E : Type 0} (o : Result T E) (stood : Standing) (after : Progress) where
    abbrev pub handle_answer : Type 0
    handle_answer = MatchResult o (λ _. IsHandled stood (standing_of pid count turns proc after)) (λ _. standing_of pid count turns proc after ≡ stood)

  module _ (before after : Progress) where
    pub exec_tells_so : {E : Type 0} (o : Result Exec E) → can_exec (runs before) ≡ true → MatchResult o (HasGone pid proc before after) (λ _. IsSameButRoomAndPlace before after) →
        exec_answer o (standing_of pid count turns proc before) after
    exec_tells_so (Ok how) h x = exec_tells before after how h x
    exec_tells_so (Err _) h u = unmoved_is before after u

    pub handle_tells_so : {T E : Type 0} (o : Result T E) → can_handle (runs before) ≡ true →
        MatchResult o (λ _. HasHandledNext pid before after) (λ _. IsSameButRoom before after) →
        handle_answer o (standing_of pid count turns proc before) after
    handle_tells_so (Ok _) h x = handle_tells before after h x
    handle_tells_so (Err _) h same = same_is before after same

  -- a signal of another arrives, or there is no room and no memory for it
  module _ (p : Progress) (k : IsSound pid count turns proc p) (left : SignalList) where
    pub arrived_sound : (x : Signal) (o : Push) → IsArriving pid count x → IsPush p.taken_in left x o → IsSound pid count turns proc (record p { taken_in = left })
    arrived_sound x Added h e = record {
      keeps = rw e.0 (arrived_keeps (runs p) x k.keeps h);
      owner = k.owner;
      saved = record { none = k.saved.none; ended = k.saved.ended };
    }
    arrived_sound x (Memory back) h e = record {
      keeps = rw e.0 k.keeps;
      owner = k.owner;
      saved = record { none = k.saved.none; ended = k.saved.ended };
    }

    -- the oldest signal to others is taken, where there is one
    abbrev IsOut : Option Signal → Type 0
    IsOut o = MatchOption o ((p.outbox.items ≡ []) × (left.items ≡ [])) (λ first. p.outbox.items ≡ first ∷ left.items)

    all_left : (P : Signal → Type 0) (o : Option Signal) → IsOut o → All P p.outbox.items → All P left.items
    all_left P None e all = subst (All P) (sym e.1) (All-nil P)
    all_left P (Some x) e all = All-tail P x left.items (subst (All P) e all)

    all_first : (P : Signal → Type 0) (o : Option Signal) → IsOut o → All P p.outbox.items → IfSome o P
    all_first P None e all = tt
    all_first P (Some x) e all = All-head P x left.items (subst (All P) e all)

    pub out_sound : (o : Option Signal) → IsOut o → IsSound pid count turns proc (record p { outbox = left })
    out_sound o e = record {
      keeps =
          outbox_keeps (runs p) left.items k.keeps (all_left (IsLeaving pid p.counts.stamp) o e k.keeps.outbox) (all_left (IsSignalBelow count) o e k.keeps.below.outbox);
      owner = k.owner;
      saved = record { none = k.saved.none; ended = k.saved.ended };
    }

    pub out_arrives : (o : Option Signal) → IsOut o → IfSome o (λ first. IsArriving first.to.0 count first)
    out_arrives o e =
        all_first (λ (x : Signal). IsArriving x.to.0 count x) o e (λ i d lt. leaving_arrives (runs p) _ k.keeps (k.keeps.outbox i d lt) (k.keeps.below.outbox i d lt))
