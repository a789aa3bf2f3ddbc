-- What the handling of a signal keeps of the saved place.
use Rattle.std.proofs.Common.{◌≡◌, ℕ, ◌≤◌, List, length, All, Option, Some, None, refl, sym, ap, ◌∙◌, subst}
use Rattle.std.specs.Prelude.{IsSome, IfSome, OnOk, MatchResult, Result, Ok, Err, is_some, if◌then◌else◌}
use Rattle.sig_terms.specs.declared.pid.Pid.{Pid}
use Rattle.sig_terms.specs.declared.reference.Ref.{Ref}
use Rattle.sig_terms.specs.declared.term.Term.{Term}
use Rattle.sig_patterns.specs.declared.clause.Clause.{Clause}
use Rattle.sig_patterns.specs.Environment.{Environment}
use Rattle.sig_patterns.specs.declared.mark.Mark.{Mark}
use Rattle.sig_patterns.specs.Inbox.{start_of}
use Rattle.sig_patterns.proofs.MarkLemmas.{start_arrived}
use Rattle.sig_inner.specs.InnerQueue.{InnerQueue, appended, emptied}
use Rattle.sig_inner.proofs.Resuming.{passed_append, passed_appended, passed_unsaved}
use Rattle.sig_inner.specs.Receiving.{passed, HasPassed}
use Rattle.sig_program.specs.declared.instruction.Instr.{Instr}
use Rattle.sig_program.specs.declared.instruction.Instr.TheVariants as instr
use Rattle.sig_kinds.specs.declared.signal.Signal.{Signal}
use Rattle.sig_model.specs.ProcessState.{ProcessState}
use Rattle.sig_model.specs.Bodies.{Body}
use Rattle.sig_model.specs.Finishing.{finished_handle}
use Rattle.sig_model.specs.Handling.{handling}
use Rattle.sig_model.specs.Machine.{handling_of}
use Rattle.sig_model.specs.Running.{next_of}
use Rattle.sig_model.specs.Executing.{using_ref}
use Rattle.sig_process.specs.declared.changing.Change.{Change}
use Rattle.sig_process.specs.declared.changing.Change.TheVariants as change
use Rattle.sig_process.specs.declared.plan.Plan.{Plan}
use Rattle.sig_process.specs.declared.progress.Progress.{Progress}
use Rattle.sig_process.specs.Plans.{changed, after_obeying, body_of}
use Rattle.sig_process.specs.Progressing.{state_of, IsSameButRoom}
use Rattle.sig_process.specs.Executions.{KeepsSaved, HasHandledNext, IsPlacedWithin}
use Rattle.sig_process.specs.Committing.{queue_after, HasHandled}
use Rattle.sig_process.specs.Soundness.{HasPassedAt}
use Rattle.sig_process.proofs.ChangeLemmas.{changed_owner}

-- what a change keeps of the place
module _ (q : InnerQueue) (within : passed q.last ≤ length q.inbox.messages) (early : All (λ (m : Mark). m.arrival ≤ q.inbox.next_arrival) q.inbox.marks) where
  -- a message comes behind each start
  arrived_passes : (using : Option Ref) (clauses : List Clause) (env : Environment) (message : Term) → HasPassed q (start_of q.inbox using) clauses env
      → HasPassed (appended q message) (start_of (appended q message).inbox using) clauses env
  arrived_passes using clauses env message k =
      subst (λ start. HasPassed (appended q message) start clauses env) (sym (start_arrived q.inbox message using early)) (passed_appended clauses env q message (start_of q.inbox using) within k)

  changed_passes : (c : Change) (using : Option Ref) (clauses : List Clause) (env : Environment) → HasPassed q (start_of q.inbox using) clauses env
      → HasPassed (queue_after q c) (start_of (queue_after q c).inbox using) clauses env
  changed_passes (change.Append message) using clauses env k = arrived_passes using clauses env message k
  changed_passes (change.ThroughAlias reference message) using clauses env k = arrived_passes using clauses env message k
  changed_passes (change.ToldDown reference message) using clauses env k = arrived_passes using clauses env message k
  changed_passes (change.End reason) using clauses env k = passed_unsaved clauses env (emptied q) (start_of (emptied q).inbox using) refl
  changed_passes _ using clauses env k = k

  passes_at : (c : Change) (env : Environment) (i : Option Instr) → HasPassedAt i q env → HasPassedAt i (queue_after q c) env
  passes_at c env (Some (instr.Receive r)) k = changed_passes c (using_ref env r.using) r.clauses env k
  passes_at c env _ k = tt

  kept : (o : Option Term) (n : ℕ) → n ≡ passed q.last → (IsSome o → passed q.last ≡ 0) → n ≡ (if is_some o then 0 else passed q.last)
  kept (Some reason) n e ended = e ∙ ended refl
  kept None n e ended = e

  changed_place : (s : ProcessState) (c : Change) → (IsSome s.tables.end → passed q.last ≡ 0) →
      passed (queue_after q c).last ≡ (if is_some (changed s c).tables.end then 0 else passed q.last)
  changed_place s (change.Append message) ended = kept s.tables.end (passed (appended q message).last) (passed_append q.last) ended
  changed_place s (change.ThroughAlias reference message) ended = kept s.tables.end (passed (appended q message).last) (passed_append q.last) ended
  changed_place s (change.ToldDown reference message) ended = kept s.tables.end (passed (appended q message).last) (passed_append q.last) ended
  changed_place s (change.End reason) ended = refl
  changed_place s _ ended = kept s.tables.end (passed q.last) refl ended

obeyed_end : (s : ProcessState) (peer : Option Pid) → (after_obeying s peer).tables.end ≡ s.tables.end
obeyed_end s None = refl
obeyed_end s (Some peer) = refl

-- a signal was handled by this plan
pub handled_keeps : (before after : Progress) (peer : Option Pid) (c : Change) →
    (after.tables.env ≡ before.tables.env) × (after.counts.place ≡ before.counts.place) → after.tables.end ≡ (changed (after_obeying (state_of before) peer) c).tables.end →
    after.tables.inner.queue ≡ queue_after before.tables.inner.queue c → passed before.tables.inner.queue.last ≤ length before.tables.inner.queue.inbox.messages →
    All (λ (m : Mark). m.arrival ≤ before.tables.inner.queue.inbox.next_arrival) before.tables.inner.queue.inbox.marks →
    (IsSome before.tables.end → passed before.tables.inner.queue.last ≡ 0) → KeepsSaved before after
handled_keeps before after peer c steady end queue within early ended =
    let q = before.tables.inner.queue in
    record {
      owner = ap (λ (r : InnerQueue). r.owner) queue ∙ changed_owner q c;
      place = steady.1;
      saved =
          ap (λ (r : InnerQueue). passed r.last) queue
          ∙ changed_place q within early (after_obeying (state_of before) peer) c (λ some. ended (subst IsSome (obeyed_end (state_of before) peer) some))
          ∙ ap (λ (o : Option Term). if is_some o then 0 else passed q.last) (sym end);
      none = λ i k. rw (queue, steady.0) (passes_at q within early c before.tables.env i k);
    }

-- a signal was handled as it was planned
next_handled : (n : Option Signal) (pid : ℕ) (before after : Progress) (b : Body) → IfSome n (λ x. handling pid (state_of before) x ≡ b) →
    IfSome n (λ x. HasHandled pid before after x (finished_handle pid (state_of before) x b)) → IfSome n (λ x. HasHandled pid before after x (handling_of pid (state_of before) x))
next_handled (Some x) pid before after b e h = subst (λ (body : Body). HasHandled pid before after x (finished_handle pid (state_of before) x body)) (sym e) h
next_handled None pid before after b e h = tt

module _ (pid : ℕ) (before after : Progress) (plan : Plan) (placed : IsPlacedWithin before.tables.inner.queue) (ended : IsSome before.tables.end → passed before.tables.inner.queue.last ≡ 0) where
  abbrev next : Option Signal
  next = next_of before.own.items before.taken_in.items

  pub planned_handled : {T E : Type 0} (o : Result T E) → IfSome next (λ x. handling pid (state_of before) x ≡ body_of (state_of before) plan) →
      MatchResult o (λ _. IfSome next (λ x. HasHandled pid before after x (finished_handle pid (state_of before) x (body_of (state_of before) plan)))) (λ _. IsSameButRoom before after) →
      OnOk o ((after.tables.env ≡ before.tables.env) × (after.counts.place ≡ before.counts.place)) →
      OnOk o (after.tables.end ≡ (changed (after_obeying (state_of before) plan.obeyed) plan.change).tables.end) →
      OnOk o (after.tables.inner.queue ≡ queue_after before.tables.inner.queue plan.change) →
      MatchResult o (λ _. HasHandledNext pid before after) (λ _. IsSameButRoom before after)
  planned_handled (Ok _) e h steady end queue = record {
    handled = next_handled next pid before after (body_of (state_of before) plan) e h;
    saved = handled_keeps before after plan.obeyed plan.change steady end queue placed.within placed.early ended;
  }
  planned_handled (Err _) e h steady end queue = h
