-- What a commit does to the fields of a process.
use Rattle.std.specs.Prelude.{◌≡◌, ℕ, ◌+◌, ◌<◌, ◌≤◌, ◌^◌, List, [], ◌∷◌, ◌++◌, map, slice_index, Option, Some, option_and_then}
use Rattle.sig_terms.specs.declared.term.Term.{Term}
use Rattle.sig_kinds.specs.declared.signal.Signal.{Signal}
use Rattle.sig_patterns.specs.declared.pattern.Pattern.{Pattern}
use Rattle.sig_patterns.specs.Environment.{Environment}
use Rattle.sig_patterns.specs.Matching.{match_of}
use Rattle.sig_inner.specs.InnerQueue.{InnerQueue, appended, emptied, found_message, taken}
use Rattle.sig_runs.specs.Rules.{Effect}
use Rattle.sig_model.specs.declared.event.Event.{Event}
use Rattle.sig_model.specs.declared.event.Did.TheVariants as did
use Rattle.sig_model.specs.declared.event.Outcome.{Outcome}
use Rattle.sig_model.specs.declared.event.Outcome.TheVariants as outcome
use Rattle.sig_model.specs.declared.state.TheConstants.{LAST_STAMP}
use Rattle.sig_model.specs.ProcessState.{ProcessState, Post}
use Rattle.sig_model.specs.Bounds.{posts_to}
use Rattle.sig_model.specs.Finishing.{numbers_after}
use Rattle.sig_model.specs.Running.{to_itself, to_others, next_of}
use Rattle.sig_process.specs.declared.changing.Change.{Change}
use Rattle.sig_process.specs.declared.changing.Change.TheVariants.{Append, ThroughAlias, ToldDown, End}
use Rattle.sig_process.specs.declared.changing.Growing.{Growing}
use Rattle.sig_process.specs.declared.plan.Binding.{Binding}
use Rattle.sig_process.specs.declared.plan.Outgoing.{Outgoing}
use Rattle.sig_process.specs.declared.progress.Progress.{Progress}
use Rattle.sig_process.specs.Plans.{post_of, bound}
use Rattle.sig_process.specs.Progressing.{state_of, HaveRoom}

-- there is room for all that an event changes, with so many signals to be sent
pub record HasRoom (posts : ℕ) (grows : Growing) (p : Progress) : Type 0 where
  pub own : posts ≤ p.own.spare
  pub outbox : posts ≤ p.outbox.spare
  pub tables : HaveRoom grows p.tables

-- no count of the process is at its end, nor will be after it has sent these
pub record IsCommittable (posts : List Outgoing) (p : Progress) : Type 0 where
  pub stamp : p.counts.stamp < LAST_STAMP
  pub arrivals : p.tables.inner.queue.inbox.next_arrival < 2 ^ 63
  pub ids : p.tables.links.links.next_id < 2 ^ 63
  pub numbers : (peer : ℕ) → slice_index p.counts.next_numbers peer + posts_to peer (map post_of posts) < 2 ^ 63

-- the inner queue after a change
abbrev pub queue_after : InnerQueue → Change → InnerQueue
queue_after q (Append message) = appended q message
queue_after q (ThroughAlias reference message) = appended q message
queue_after q (ToldDown reference message) = appended q message
queue_after q (End reason) = emptied q
queue_after q _ = q

-- the variables, the counts and the lists of the process are as before
pub record KeepsRest (before after : Progress) : Type 0 where
  pub env : after.tables.env ≡ before.tables.env
  pub counts : after.counts ≡ before.counts
  pub events : after.events ≡ before.events
  pub handled : after.handled ≡ before.handled
  pub own : after.own ≡ before.own
  pub taken_in : after.taken_in ≡ before.taken_in
  pub outbox : after.outbox ≡ before.outbox

-- what waits behind the next signal: of the process's own ones, and of those of others
abbrev pub behind_first : List Signal → List Signal
behind_first [] = []
behind_first (x ∷ xs) = xs

abbrev pub others_behind : List Signal → List Signal → List Signal
others_behind [] taken_in = behind_first taken_in
others_behind (x ∷ own) taken_in = taken_in

-- The process pid has handled this signal, the next one of those that waited, by an event with this effect.
pub record HasHandled (pid : ℕ) (before after : Progress) (x : Signal) (e : Effect ProcessState Signal Event) : Type 0 where
  pub next : next_of before.own.items before.taken_in.items ≡ Some x
  pub state : state_of after ≡ e.state
  pub events : after.events ≡ before.events ++ e.event ∷ []
  pub handled : after.handled.items ≡ before.handled.items ++ x ∷ []
  pub own : after.own.items ≡ behind_first before.own.items ++ to_itself pid e.sends
  pub taken_in : after.taken_in.items ≡ others_behind before.own.items before.taken_in.items
  pub outbox : after.outbox.items ≡ before.outbox.items ++ to_others pid e.sends

-- room is made, and the event is noted
pub record HasBegun (posts : ℕ) (grows : Growing) (before after : Progress) (e : Event) : Type 0 where
  pub room : HasRoom posts grows after
  -- and for the signal that was handled
  pub handled_room : 0 < after.handled.spare
  pub state : state_of after ≡ state_of before
  pub queue : after.tables.inner.queue ≡ before.tables.inner.queue
  pub counts : after.counts ≡ before.counts
  pub events : after.events ≡ before.events ++ e ∷ []
  pub handled : after.handled.items ≡ before.handled.items
  pub own : after.own.items ≡ before.own.items
  pub taken_in : after.taken_in.items ≡ before.taken_in.items
  pub outbox : after.outbox.items ≡ before.outbox.items

-- room is made, the event of an instruction is noted, and its variable is bound
pub record HasBound (posts : ℕ) (grows : Growing) (binding : Binding) (before after : Progress) (how : Outcome) : Type 0 where
  pub room : HasRoom posts grows after
  pub state : state_of after ≡ bound (state_of before) binding
  pub queue : after.tables.inner.queue ≡ before.tables.inner.queue
  pub events : after.events ≡ before.events ++ record { stamp = before.counts.stamp + 1; did = did.Exec before.counts.place; outcome = how } ∷ []
  pub handled : after.handled.items ≡ before.handled.items
  pub own : after.own.items ≡ before.own.items
  pub taken_in : after.taken_in.items ≡ before.taken_in.items
  pub outbox : after.outbox.items ≡ before.outbox.items

-- the state with this stamp, after these were numbered from these numbers on
abbrev pub gone_on : ProcessState → ℕ → List ℕ → List Post → ProcessState
gone_on s stamp numbers posts = record s { counts = record s.counts { stamp = stamp; next_numbers = numbers_after numbers posts } }

-- the variables of the pattern, bound to the parts of the message of the last scan
abbrev pub env_found : Pattern → Progress → Option Environment
env_found pattern p = option_and_then (match_of pattern p.tables.env) (found_message p.tables.inner.queue)

-- They are bound, and the message is taken out; the event tells it with the number of the clause, and how many were looked at.
pub record HasTaken (place clause looked : ℕ) (before after : Progress) (pattern : Pattern) : Type 0 where
  pub message : Term
  pub found : found_message before.tables.inner.queue ≡ Some message
  pub bound : env_found pattern before ≡ Some after.tables.env
  pub queue : after.tables.inner.queue ≡ taken before.tables.inner.queue
  pub rest : after ≡ record before {
    tables = record before.tables { env = after.tables.env; inner = after.tables.inner };
    counts = record before.counts { place = place; executed = before.counts.executed + 1; stamp = before.counts.stamp + 1 };
    events = before.events ++ record { stamp = before.counts.stamp + 1; did = did.Exec before.counts.place; outcome = outcome.Took clause looked message } ∷ [];
  }
