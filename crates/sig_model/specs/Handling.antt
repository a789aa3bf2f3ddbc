-- Handling one signal: one equation for each cell of the table of handling, a live and an ended receiver for each kind
-- (Erlang Reference Manual, Processes, Signals, Delivery of Signals, Links, Receiving Exit Signals,
-- Monitors and Process Aliases).
use Rattle.std.specs.Prelude.{ℕ, Bool, true, false, List, [], ◌∷◌, is_some, if◌then◌else◌, codes}
use Rattle.sig_terms.specs.declared.reference.Ref.{Ref}
use Rattle.sig_terms.specs.declared.term.Term.{Term}
use Rattle.sig_terms.specs.declared.term.Term.TheVariants as term
use Rattle.sig_kinds.specs.declared.alias_answer.AliasAnswer.{AliasAnswer}
use Rattle.sig_kinds.specs.declared.alias_answer.AliasAnswer.TheVariants as alias_answer
use Rattle.sig_kinds.specs.declared.signal.Kind.{Kind}
use Rattle.sig_kinds.specs.declared.signal.Kind.TheVariants.{Message, AliasMessage, Link, Unlink, UnlinkAck, Monitor, Demonitor, Exit, Down}
use Rattle.sig_kinds.specs.declared.signal.Signal.{Signal}
use Rattle.sig_kinds.specs.LinkRules.{LinkState, on_link, on_unlink, on_ack}
use Rattle.sig_kinds.specs.WatchRules.{WatchState, on_alias_message, on_monitor, on_demonitor, on_down}
use Rattle.sig_model.specs.declared.event.Outcome.TheVariants as outcome
use Rattle.sig_model.specs.ProcessState.{ProcessState, relinked, rewatched}
use Rattle.sig_model.specs.Bodies.{Body, appending, dropping, noproc}
use Rattle.sig_model.specs.ExitRule.{plain_exit, linked_exit}
use Rattle.sig_model.specs.Executing.{demonitor_posts}
use Rattle.sig_model.specs.LinkPair.{Word}
use Rattle.sig_model.specs.LinkPair.Word.{Links, Unlinks, Acks, Exits}

-- by the rule for a link signal; its answer is whether the link is set up
abbrev pub linking_up : ProcessState → Bool × LinkState → Body
linking_up s (linked, links) = record {
  state = relinked s links;
  outcome = if linked then outcome.Linked else outcome.Dropped;
  posts = [];
}

-- by the rule for an unlink signal of this sender, which gets its id back
abbrev pub unlinking_from : ProcessState → ℕ → ℕ → Bool × LinkState → Body
unlinking_from s sender id (ended, links) = record {
  state = relinked s links;
  outcome = outcome.Unlinked;
  posts = record { to = sender; kind = UnlinkAck id } ∷ [];
}

-- by the rule for an acknowledgement; its answer is whether its id is the awaited one
abbrev pub acknowledging : ProcessState → Bool × LinkState → Body
acknowledging s (awaited, links) = record {
  state = relinked s links;
  outcome = if awaited then outcome.Acked else outcome.Dropped;
  posts = [];
}

-- by the rule for a message through an alias
abbrev pub through_alias : ProcessState → Ref → Term → AliasAnswer × WatchState → Body
through_alias s r message (alias_answer.Dropped, watch) = dropping s
through_alias s r message (alias_answer.Kept tell, watch) =
    let kept = appending (rewatched s watch) message in
    record { state = kept.state; outcome = kept.outcome; posts = demonitor_posts r tell }

-- by the rule for a monitor signal
abbrev pub watching : ProcessState → WatchState → Body
watching s watch = record { state = rewatched s watch; outcome = outcome.Watched; posts = [] }

-- by the rule for a demonitor signal; its answer is whether the monitor was borne
abbrev pub unwatching : ProcessState → Bool × WatchState → Body
unwatching s (was, watch) = record {
  state = rewatched s watch;
  outcome = if was then outcome.Unwatched else outcome.Dropped;
  posts = [];
}

-- the message of a monitored process's end: `{'DOWN',Ref,process,Pid,Reason}`
abbrev pub down_message : Ref → ℕ → Term → Term
down_message r sender reason =
    term.Tuple (term.Atom (codes "DOWN") ∷ term.Ref r ∷ term.Atom (codes "process") ∷ term.Pid (record { 0 = sender }) ∷ reason ∷ [])

-- by the rule for a down signal; its answer is whether the monitor was held
abbrev pub told_down : ProcessState → Ref → ℕ → Term → Bool × WatchState → Body
told_down s r sender reason (held, watch) = if held then appending (rewatched s watch) (down_message r sender reason) else dropping s

-- at the live process pid, a signal of this sender
abbrev pub live_body : ℕ → ProcessState → ℕ → Kind → Body
live_body pid s sender (Message message) = appending s message
live_body pid s sender (AliasMessage r message) = through_alias s r message (on_alias_message s.tables.watch r)
live_body pid s sender Link = linking_up s (on_link s.tables.links sender)
live_body pid s sender (Unlink id) = unlinking_from s sender id (on_unlink s.tables.links sender)
live_body pid s sender (UnlinkAck id) = acknowledging s (on_ack s.tables.links sender id)
live_body pid s sender (Monitor r) = watching s (on_monitor s.tables.watch r sender)
live_body pid s sender (Demonitor r) = unwatching s (on_demonitor s.tables.watch r)
live_body pid s sender (Exit reason true) = linked_exit pid s sender reason
live_body pid s sender (Exit reason false) = plain_exit pid s sender reason
live_body pid s sender (Down r reason) = told_down s r sender reason (on_down s.tables.watch r)

-- there is no such process any more: the sender of a link signal gets an exit signal of the link, and that of a monitor signal a down
abbrev pub answering_noproc : ProcessState → ℕ → Kind → Body
answering_noproc s sender answer = record { state = s; outcome = outcome.NoProc; posts = record { to = sender; kind = answer } ∷ [] }

-- at a process that has ended, a signal of this sender
abbrev pub ended_body : ProcessState → ℕ → Kind → Body
ended_body s sender Link = answering_noproc s sender (Exit noproc true)
ended_body s sender (Monitor r) = answering_noproc s sender (Down r noproc)
ended_body s sender _ = dropping s

-- what the process pid does with this signal
unfoldable pub handling : ℕ → ProcessState → Signal → Body
handling pid s signal =
    if is_some s.tables.end then ended_body s signal.from.0 signal.kind else live_body pid s signal.from.0 signal.kind

-- What a signal of this kind tells its receiver of the link to the sender: a word, or nothing. Where it isn't between these two, it
-- tells nothing.
abbrev pub words_if : Bool → Kind → List Word
words_if between Link = if between then Links ∷ [] else []
words_if between (Unlink id) = if between then Unlinks id ∷ [] else []
words_if between (UnlinkAck id) = if between then Acks id ∷ [] else []
words_if between (Exit reason true) = if between then Exits ∷ [] else []
words_if between _ = []
