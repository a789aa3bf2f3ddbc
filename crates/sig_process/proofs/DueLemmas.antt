-- What a planned event needs so that it may happen.
use Rattle.std.proofs.Common.{◌≡◌, ℕ, ◌+◌, ◌-◌, ◌<◌, ◌≤◌, ◌^◌, List, map, Option, Some, None, refl, ap, ◌∙◌, subst, arith}
use Rattle.std.specs.Prelude.{IfSome, IsSomeAnd, slice_get}
use Rattle.std.specs.Option.{option_map}
use Rattle.sig_kinds.specs.declared.signal.Signal.{Signal}
use Rattle.sig_program.specs.Scripts.{Declared}
use Rattle.sig_model.specs.declared.state.TheConstants.{LAST_STAMP}
use Rattle.sig_model.specs.ProcessState.{downs_due}
use Rattle.sig_model.specs.Bodies.{Body}
use Rattle.sig_model.specs.Bounds.{IsBounded, IsBoundedBody, posts_to}
use Rattle.sig_model.specs.Executing.{from_mark, executing, exec_body}
use Rattle.sig_model.specs.Handling.{handling}
use Rattle.sig_model.specs.Finishing.{finished_exec}
use Rattle.sig_model.specs.Machine.{execution}
use Rattle.sig_model.specs.Running.{next_of}
use Rattle.sig_model.proofs.BoundLemmas.{executing_bounded, handling_bounded}
use Rattle.sig_process.specs.declared.plan.Outgoing.{Outgoing}
use Rattle.sig_process.specs.declared.plan.Plan.{Plan}
use Rattle.sig_process.specs.declared.plan.Execution.{Execution}
use Rattle.sig_process.specs.declared.progress.Progress.{Progress}
use Rattle.sig_process.specs.Plans.{outgoing_of, body_of, executed_body, post_of}
use Rattle.sig_process.specs.Progressing.{state_of}
use Rattle.sig_process.specs.Committing.{IsCommittable}
use Rattle.sig_process.specs.Executions.{IsExecDue, IsHandleDue}

-- the greatest stamp lies far below the greatest number
low : LAST_STAMP + 1 < 2 ^ 63
low = omega arith

-- to each peer at most one signal more is sent than downs are due
pub committable : (proc : Declared) (p : Progress) (posts : List Outgoing) → IsBounded proc (state_of p) → p.counts.stamp < LAST_STAMP → ((peer : ℕ) → posts_to peer (map post_of posts) ≤ downs_due (state_of p).tables + 1) →
    IsCommittable posts p
committable proc p posts k lt few = record {
  stamp = lt;
  arrivals = omega (arith, k.arrivals, lt, low);
  ids = omega (arith, k.ids, lt, low);
  numbers = λ peer. omega (arith, k.numbers peer, few peer, lt, low);
}

-- the next serial is far below its end
pub serials_left : (proc : Declared) (p : Progress) → IsBounded proc (state_of p) → p.counts.stamp < LAST_STAMP → p.counts.next_serial < 2 ^ 63
serials_left proc p k lt = omega (arith, k.serials, lt, low)

-- the next instruction
module _ (proc : Declared) (p : Progress) where
  pub executing_here : executing proc (state_of p) ≡ exec_body from_mark proc (state_of p) (slice_get proc.instrs (p.counts.place - 1))
  unfolding executing
  executing_here = refl

  pub execution_here : (pid : ℕ) (body : Body) → exec_body from_mark proc (state_of p) (slice_get proc.instrs (p.counts.place - 1)) ≡ Some body →
      execution pid proc (state_of p) ≡ Some (finished_exec pid (state_of p) body)
  execution_here pid body e = ap (option_map (finished_exec pid (state_of p))) (executing_here ∙ e)

  pub instr_committable : (x : Execution) → IsExecDue proc p → exec_body from_mark proc (state_of p) (slice_get proc.instrs (p.counts.place - 1)) ≡ Some (executed_body (state_of p) x) →
      IsCommittable (outgoing_of x.plan.posts) p
  instr_committable x due e =
      let b : IsBoundedBody proc (state_of p) (executed_body (state_of p) x) =
      subst (λ (o : Option Body). IfSome o (IsBoundedBody proc (state_of p))) (executing_here ∙ e) (executing_bounded proc (state_of p) due.bounds due.within) in
      committable proc p (outgoing_of x.plan.posts) due.bounds due.stamp (λ peer. omega (arith, b.posts peer))

  -- the next signal
  signal_committable : (plan : Plan) (pid : ℕ) (x : Signal) → IsHandleDue proc p → handling pid (state_of p) x ≡ body_of (state_of p) plan → IsCommittable (outgoing_of plan.posts) p
  signal_committable plan pid x due e =
      let b : IsBoundedBody proc (state_of p) (body_of (state_of p) plan) = subst (IsBoundedBody proc (state_of p)) e (handling_bounded proc (state_of p) due.bounds pid x) in
      committable proc p (outgoing_of plan.posts) due.bounds due.stamp (λ peer. omega (arith, b.posts peer))

  next_committable : (plan : Plan) (pid : ℕ) (o : Option Signal) → IsHandleDue proc p → IsSomeAnd o (λ x. x.stamp < LAST_STAMP) →
      IfSome o (λ x. handling pid (state_of p) x ≡ body_of (state_of p) plan) → IsCommittable (outgoing_of plan.posts) p
  next_committable plan pid (Some x) due early e = signal_committable plan pid x due e
  next_committable plan pid None due early e = absurd early

  pub plan_committable : (plan : Plan) (pid : ℕ) → IsHandleDue proc p → IfSome (next_of p.own.items p.taken_in.items) (λ x. handling pid (state_of p) x ≡ body_of (state_of p) plan) →
      IsCommittable (outgoing_of plan.posts) p
  plan_committable plan pid due e = next_committable plan pid (next_of p.own.items p.taken_in.items) due due.next e
