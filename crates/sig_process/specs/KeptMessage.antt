-- A message to a process that lives, or through an active alias of it, which is moved from its signal. (Erlang Reference Manual, Processes, Receiving Signals.)
use Rattle.std.specs.Prelude.{◌≡◌, ◌+◌, ◌++◌, [], ◌∷◌, max, Option, Some, None, is_some, option_and_then, if◌then◌else◌}
use Rattle.std.specs.Option.{option_map}
use Rattle.sig_terms.specs.declared.reference.Ref.{Ref}
use Rattle.sig_terms.specs.declared.term.Term.{Term}
use Rattle.sig_kinds.specs.declared.alias_mode.AliasMode.{AliasMode}
use Rattle.sig_kinds.specs.declared.signal.Kind.{Kind}
use Rattle.sig_kinds.specs.declared.signal.Kind.TheVariants as kind
use Rattle.sig_kinds.specs.declared.signal.Signal.{Signal}
use Rattle.sig_kinds.specs.WatchRules.{WatchState, mode_of}
use Rattle.sig_inner.specs.InnerQueue.{appended}
use Rattle.sig_model.specs.declared.event.Did.TheVariants as did
use Rattle.sig_model.specs.declared.event.Outcome.TheVariants as outcome
use Rattle.sig_model.specs.Running.{next_of}
use Rattle.sig_process.specs.declared.changing.Change.TheVariants as change
use Rattle.sig_process.specs.declared.plan.Plan.{Plan}
use Rattle.sig_process.specs.declared.plan.Posts.{Posts}
use Rattle.sig_process.specs.declared.progress.Progress.{Progress}
use Rattle.sig_process.specs.Committing.{behind_first, others_behind}

-- the message that a signal to a process carries
abbrev pub message_of : Kind → Option Term
message_of (kind.Message term) = Some term
message_of _ = None

-- the message of the next signal, where it is one to a process, and this one lives
abbrev pub kept_message : Progress → Option Term
kept_message p = if is_some p.tables.end then None else option_and_then (λ x. message_of x.kind) (next_of p.own.items p.taken_in.items)

-- the message that a signal through an alias carries
abbrev pub alias_message_of : Kind → Option Term
alias_message_of (kind.AliasMessage reference term) = Some term
alias_message_of _ = None

-- that of the next signal
abbrev pub next_alias_message : Progress → Option Term
next_alias_message p = option_and_then (λ x. alias_message_of x.kind) (next_of p.own.items p.taken_in.items)

-- the alias that a message comes through, and its mode, where it is active
abbrev pub alias_of : WatchState → Kind → Option (Ref × AliasMode)
alias_of watch (kind.AliasMessage reference term) = option_map (λ mode. (reference, mode)) (mode_of watch reference)
alias_of watch _ = None

-- that of the next signal, where this process lives
abbrev pub next_alias : Progress → Option (Ref × AliasMode)
next_alias p = if is_some p.tables.end then None else option_and_then (λ x. alias_of p.tables.watch.watch x.kind) (next_of p.own.items p.taken_in.items)

-- what the handling of a message through an active alias does, where this is sent
abbrev pub through_plan : Ref → Term → Posts → Plan
through_plan reference message posts = record { obeyed = None; change = change.ThroughAlias reference message; outcome = outcome.Kept message; posts = posts }

-- this signal, the next one, was handled, and this message came to the end of the list
pub record HasMoved (before after : Progress) (x : Signal) (t : Term) : Type 0 where
  pub queue : after.tables.inner.queue ≡ appended before.tables.inner.queue t
  pub handled : after.handled.items ≡ before.handled.items ++ x ∷ []
  pub own : after.own.items ≡ behind_first before.own.items
  pub taken_in : after.taken_in.items ≡ others_behind before.own.items before.taken_in.items
  pub rest : after ≡ record before { tables = record before.tables { inner = after.tables.inner }; handled = after.handled; own = after.own; taken_in = after.taken_in }

-- the same, with the event that tells the message
pub record HasKept (before after : Progress) (x : Signal) (t : Term) : Type 0 where
  pub queue : after.tables.inner.queue ≡ appended before.tables.inner.queue t
  pub handled : after.handled.items ≡ before.handled.items ++ x ∷ []
  pub own : after.own.items ≡ behind_first before.own.items
  pub taken_in : after.taken_in.items ≡ others_behind before.own.items before.taken_in.items
  pub rest : after ≡ record before {
    tables = record before.tables { inner = after.tables.inner };
    counts = record before.counts { stamp = max before.counts.stamp x.stamp + 1 };
    events = before.events ++ record { stamp = max before.counts.stamp x.stamp + 1; did = did.From x.from x.number; outcome = outcome.Kept t } ∷ [];
    handled = after.handled;
    own = after.own;
    taken_in = after.taken_in;
  }
