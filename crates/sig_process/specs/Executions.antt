-- What an execution and a handling do to the fields of a process.
use Rattle.std.specs.Prelude.{◌≡◌, ℕ, ◌+◌, ◌-◌, ◌<◌, ◌≤◌, ◌^◌, List, length, All, slice_get, Some, None, is_some, IfSome, IsSomeAnd, false, if◌then◌else◌, Option}
use Rattle.sig_kinds.specs.declared.signal.Signal.{Signal}
use Rattle.sig_patterns.specs.declared.clause.Clause.{Clause}
use Rattle.sig_patterns.specs.declared.mark.Mark.{Mark}
use Rattle.sig_patterns.specs.Scanning.{Hit}
use Rattle.sig_inner.specs.InnerQueue.{InnerQueue}
use Rattle.sig_inner.specs.declared.last_scan.LastScan.TheVariants as last
use Rattle.sig_program.specs.declared.instruction.Instr.{Instr}
use Rattle.sig_program.specs.Scripts.{Declared, IsWithin}
use Rattle.sig_runs.specs.Rules.{Effect}
use Rattle.sig_inner.specs.Receiving.{is_saved, passed}
use Rattle.sig_model.specs.declared.event.Event.{Event}
use Rattle.sig_model.specs.declared.state.TheConstants.{LAST_STAMP}
use Rattle.sig_model.specs.ProcessState.{ProcessState}
use Rattle.sig_model.specs.Bounds.{IsBounded}
use Rattle.sig_model.specs.Executing.{hit_from, IsWaiting}
use Rattle.sig_model.specs.Machine.{execution, handling_of}
use Rattle.sig_model.specs.Running.{next_of}
use Rattle.sig_process.specs.declared.executing.Exec.{Exec}
use Rattle.sig_process.specs.declared.executing.Exec.TheVariants.{Stepped, Waiting}
use Rattle.sig_process.specs.declared.progress.Progress.{Progress}
use Rattle.sig_process.specs.Progressing.{state_of, HasAdvanced}
use Rattle.sig_process.specs.Committing.{HasHandled}
use Rattle.sig_process.specs.Soundness.{IsSaved, HasPassedAt}

-- the next instruction may be executed
pub record IsExecDue (proc : Declared) (p : Progress) : Type 0 where
  pub within : IsWithin proc
  pub bounds : IsBounded proc (state_of p)
  pub stamp : p.counts.stamp < LAST_STAMP
  pub turns : p.counts.executed + 1 < 2 ^ 32
  pub alive : p.tables.end ≡ None
  -- its references are those that its marks may have
  pub owner : p.tables.inner.queue.owner ≡ p.tables.watch.watch.owner
  pub saved : IsSaved (slice_get proc.instrs (p.counts.place - 1)) p

-- the next signal may be handled
pub record IsHandleDue (proc : Declared) (p : Progress) : Type 0 where
  pub bounds : IsBounded proc (state_of p)
  pub stamp : p.counts.stamp < LAST_STAMP
  pub next : IsSomeAnd (next_of p.own.items p.taken_in.items) (λ x. x.stamp < LAST_STAMP)
  pub saved : IsSaved (slice_get proc.instrs (p.counts.place - 1)) p

-- all but the room and the saved place is as before
pub record IsSameButRoomAndPlace (before after : Progress) : Type 0 where
  pub state : state_of after ≡ state_of before
  pub owner : after.tables.inner.queue.owner ≡ before.tables.inner.queue.owner
  pub events : after.events ≡ before.events
  pub handled : after.handled.items ≡ before.handled.items
  pub own : after.own.items ≡ before.own.items
  pub taken_in : after.taken_in.items ≡ before.taken_in.items
  pub outbox : after.outbox.items ≡ before.outbox.items

-- the process pid has executed the next instruction of its part of the script, and no place is saved
pub record HasExecuted (pid : ℕ) (proc : Declared) (before after : Progress) : Type 0 where
  pub effect : Effect ProcessState Signal Event
  pub due : execution pid proc (state_of before) ≡ Some effect
  pub advanced : HasAdvanced pid before after effect
  pub unsaved : is_saved after.tables.inner.queue.last ≡ false

-- it waits at a receive, and the place behind all messages is saved
pub record HasWaited (proc : Declared) (before after : Progress) : Type 0 where
  pub waits : IsWaiting proc (state_of before)
  pub unmoved : IsSameButRoomAndPlace before after
  pub saved : passed after.tables.inner.queue.last ≡ length before.tables.inner.queue.inbox.messages
  -- it lay among the messages before
  pub within : passed before.tables.inner.queue.last ≤ length before.tables.inner.queue.inbox.messages

-- The last scan has found this hit among the messages behind the first `start` ones, with the clause of this number, and looked at
-- so many messages.
pub record IsHit (clauses : List Clause) (p : Progress) (number count start : ℕ) (h : Hit) : Type 0 where
  pub is : hit_from start clauses (state_of p) ≡ Some h
  pub left : p.tables.inner.queue.last ≡ last.Found (start + h.at)
  pub clause : number ≡ h.clause + 1
  pub looked : count ≡ h.at + 1

-- one of both
abbrev pub HasGone : ℕ → Declared → Progress → Progress → Exec → Type 0
HasGone pid proc before after Stepped = HasExecuted pid proc before after
HasGone pid proc before after Waiting = HasWaited proc before after

-- a handling keeps the saved place, but at the end of the process
pub record KeepsSaved (before after : Progress) : Type 0 where
  pub owner : after.tables.inner.queue.owner ≡ before.tables.inner.queue.owner
  pub place : after.counts.place ≡ before.counts.place
  pub saved : passed after.tables.inner.queue.last ≡ (if is_some after.tables.end then 0 else passed before.tables.inner.queue.last)
  pub none : (i : Option Instr) → HasPassedAt i before.tables.inner.queue before.tables.env → HasPassedAt i after.tables.inner.queue after.tables.env

-- the process pid has handled the next signal as the table of handling says
pub record HasHandledNext (pid : ℕ) (before after : Progress) : Type 0 where
  pub handled : IfSome (next_of before.own.items before.taken_in.items) (λ x. HasHandled pid before after x (handling_of pid (state_of before) x))
  pub saved : KeepsSaved before after

-- the saved place and the marks lie among the messages
pub record IsPlacedWithin (q : InnerQueue) : Type 0 where
  pub within : passed q.last ≤ length q.inbox.messages
  pub early : All (λ (m : Mark). m.arrival ≤ q.inbox.next_arrival) q.inbox.marks
