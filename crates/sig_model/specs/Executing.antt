-- Executing one instruction: one equation for each row of the table of instructions (Erlang Reference Manual,
-- Expressions, Send, Match and Receive; Processes, Links, Process Termination, Sending Exit Signals, Receiving Exit Signals, Monitors
-- and Process Aliases; module `erlang`, `make_ref/0`, `monitor/2`, `monitor/3`, `demonitor/1`, `demonitor/2`, `alias/1` and `unalias/1`).
use Rattle.std.specs.Prelude.{◌≡◌, ℕ, ◌+◌, ◌-◌, Bool, true, false, List, [], ◌∷◌, length, take, drop, slice_get, All, Option, Some, None, IfSome, option_and_then, if◌then◌else◌}
use Rattle.std.specs.Option.{option_map_or}
use Rattle.std.specs.FinMap.{insert}
use Rattle.sig_terms.specs.declared.pid.Pid.{Pid}
use Rattle.sig_terms.specs.declared.reference.Ref.{Ref}
use Rattle.sig_terms.specs.declared.term.Term.{Term}
use Rattle.sig_terms.specs.declared.term.Term.TheVariants as term
use Rattle.sig_terms.specs.Nodes.{holds}
use Rattle.sig_kinds.specs.declared.alias_mode.AliasMode.{AliasMode}
use Rattle.sig_kinds.specs.declared.signal.Kind.TheVariants as kind
use Rattle.sig_kinds.specs.LinkRules.{LinkState, link, unlink}
use Rattle.sig_kinds.specs.WatchRules.{WatchState, monitor, demonitor, alias, unalias}
use Rattle.sig_patterns.specs.declared.clause.Clause.{Clause}
use Rattle.sig_patterns.specs.declared.expression.Expr.{Expr}
use Rattle.sig_patterns.specs.declared.var.Var.{Var}
use Rattle.sig_patterns.specs.Environment.{Environment, value_of_var}
use Rattle.sig_patterns.specs.Building.{value_of, is_small}
use Rattle.sig_patterns.specs.Inbox.{Inbox, terms_of, without_message, flushed_down, reserved, bound_in, cleared_in, start_of}
use Rattle.sig_patterns.specs.Scanning.{Hit, hit}
use Rattle.sig_program.specs.declared.instruction.Instr.{Instr}
use Rattle.sig_program.specs.declared.instruction.Instr.TheVariants as instr
use Rattle.sig_program.specs.declared.instruction.After.{After}
use Rattle.sig_program.specs.declared.instruction.Receiving.{Receiving}
use Rattle.sig_program.specs.Scripts.{Declared}
use Rattle.sig_model.specs.declared.event.Outcome.TheVariants as outcome
use Rattle.sig_model.specs.declared.target.Target.{Target}
use Rattle.sig_model.specs.declared.target.Target.TheVariants as target
use Rattle.sig_model.specs.ProcessState.{ProcessState, owner_of, Post, with_tables, inboxed, relinked, rewatched}
use Rattle.sig_model.specs.Bodies.{Body, place_after, at_place, at_next, going_on, ending, normal, badarg, system_limit}

-- the value of the expression, where it is small enough to be built
abbrev pub built : Environment → Expr → Option Term
built env e = if is_small (value_of env e) then Some (value_of env e) else None

-- with the value of the expression; one that is too large ends the process with `system_limit`
abbrev pub with_value : ProcessState → Expr → (Term → Body) → Body
with_value s e go = option_map_or go (built s.tables.env e) (ending s system_limit)

-- with the process that the value names; a value that is no pid ends the process with `badarg`
abbrev pub with_pid : ProcessState → Term → (Pid → Body) → Body
with_pid s (term.Pid p) go = go p
with_pid s _ go = ending s badarg

-- with the reference that the value is; a value that is none ends the process with `badarg`
abbrev pub with_ref : ProcessState → Term → (Ref → Body) → Body
with_ref s (term.Ref r) go = go r
with_ref s _ go = ending s badarg

-- with the process or the alias that the value names; a value that is neither ends the process with `badarg`
abbrev pub with_target : ProcessState → Term → (Target → Body) → Body
with_target s (term.Pid p) go = go (target.Process p)
with_target s (term.Ref r) go = go (target.Alias r)
with_target s _ go = ending s badarg

-- a message to a process, or through an alias to the process that made it
abbrev pub sending : ProcessState → Term → Target → Body
sending s message (target.Process p) = record {
  state = at_next s;
  outcome = outcome.Sent (term.Pid p) message;
  posts = record { to = p.0; kind = kind.Message message } ∷ [];
}
sending s message (target.Alias r) = record {
  state = at_next s;
  outcome = outcome.Sent (term.Ref r) message;
  posts = record { to = r.owner.0; kind = kind.AliasMessage r message } ∷ [];
}

-- the variable gets the value
abbrev pub setting : ProcessState → List ℕ → Term → Body
setting s var value = record {
  state = with_tables (at_next s) (record s.tables { env = insert s.tables.env var value });
  outcome = outcome.Set value;
  posts = [];
}

-- an exit signal of no link to a process
abbrev pub sending_exit : ProcessState → Term → Pid → Body
sending_exit s reason p = record {
  state = at_next s;
  outcome = outcome.Done;
  posts = record { to = p.0; kind = kind.Exit reason false } ∷ [];
}

-- by the rule for the call `link`, a link to this peer
abbrev pub linked_by : ProcessState → Pid → Bool × LinkState → Body
linked_by s peer (sends, links) = record {
  state = relinked (at_next s) links;
  outcome = outcome.Done;
  posts = if sends then record { to = peer.0; kind = kind.Link } ∷ [] else [];
}

-- a link to a process
abbrev pub linking : ProcessState → Pid → Body
linking s peer = linked_by s peer (link s.tables.links peer.0)

-- the unlink signal, where the rule for the call `unlink` gives an id
abbrev pub unlink_posts : Pid → Option ℕ → List Post
unlink_posts peer None = []
unlink_posts peer (Some id) = record { to = peer.0; kind = kind.Unlink id } ∷ []

-- by the rule for the call `unlink`, the end of the link to this peer
abbrev pub unlinked_by : ProcessState → Pid → Option ℕ × LinkState → Body
unlinked_by s peer (id, links) = record {
  state = relinked (at_next s) links;
  outcome = outcome.Done;
  posts = unlink_posts peer id;
}

-- the end of the link to a process
abbrev pub unlinking : ProcessState → Pid → Body
unlinking s peer = unlinked_by s peer (unlink s.tables.links peer.0)

-- the process traps exits from now on, or does no more
abbrev pub trapping : ProcessState → Bool → Body
trapping s on = record { state = record (at_next s) { traps = on }; outcome = outcome.Done; posts = [] }

-- the reference that the process makes next: its own, with the next serial
abbrev pub new_ref : ProcessState → Ref
new_ref s = record { owner = record { 0 = owner_of s.tables }; serial = s.counts.next_serial }

-- the variable gets the new reference, whose serial is used up; and the monitors and aliases become these
abbrev pub making : ProcessState → List ℕ → WatchState → List Post → Body
making s var watch posts = record {
  state = record s {
    tables = record s.tables { env = insert s.tables.env var (term.Ref (new_ref s)); watch = watch };
    counts = record s.counts { place = s.counts.place + 1; next_serial = s.counts.next_serial + 1 };
  };
  outcome = outcome.Set (term.Ref (new_ref s));
  posts = posts;
}

-- a reference that is nothing else
abbrev pub making_ref : ProcessState → List ℕ → Body
making_ref s var = making s var s.tables.watch []

-- by the rule for the call `monitor`, a monitor of this process
abbrev pub monitored_by : ProcessState → List ℕ → Pid → Bool × WatchState → Body
monitored_by s var target (sends, watch) =
    making s var watch (if sends then record { to = target.0; kind = kind.Monitor (new_ref s) } ∷ [] else [])

abbrev pub monitoring : ProcessState → List ℕ → Option AliasMode → Pid → Body
monitoring s var mode target = monitored_by s var target (monitor s.tables.watch (new_ref s) target.0 mode)

-- a new alias
abbrev pub aliasing : ProcessState → List ℕ → Bool → Body
aliasing s var reply = making s var (alias s.tables.watch (new_ref s) reply) []

-- the demonitor signal, where a process is told
abbrev pub demonitor_posts : Ref → Option Pid → List Post
demonitor_posts r None = []
demonitor_posts r (Some target) = record { to = target.0; kind = kind.Demonitor r } ∷ []

-- by the rule for the call `demonitor`, the end of the monitor of a reference
abbrev pub demonitored_by : ProcessState → Ref → Option Pid × WatchState → Body
demonitored_by s r (tell, watch) = record { state = rewatched (at_next s) watch; outcome = outcome.Done; posts = demonitor_posts r tell }

-- with `flush` the oldest message that tells of that end is removed too, and the answer is whether there was one
abbrev pub flushed_into : Body → Bool × Inbox → Body
flushed_into b (flushed, inbox) = record b { state = inboxed b.state inbox; outcome = outcome.Answered flushed }

abbrev pub flushed_by : Body → Ref → Bool → Body
flushed_by b r false = b
flushed_by b r true = flushed_into b (flushed_down b.state.tables.inbox r)

abbrev pub demonitoring : ProcessState → Bool → Ref → Body
demonitoring s flush r = flushed_by (demonitored_by s r (demonitor s.tables.watch r)) r flush

-- by the rule for the call `unalias`, the end of an alias; its answer is whether the alias was active
abbrev pub unaliased_by : ProcessState → Bool × WatchState → Body
unaliased_by s (was, watch) = record { state = rewatched (at_next s) watch; outcome = outcome.Answered was; posts = [] }

abbrev pub unaliasing : ProcessState → Ref → Body
unaliasing s r = unaliased_by s (unalias s.tables.watch r)

-- a marker stands behind all messages, for the references that are made from now on
abbrev pub reserving : ProcessState → Body
reserving s = record { state = inboxed (at_next s) (reserved s.tables.inbox s.counts.next_serial); outcome = outcome.Done; posts = [] }

-- the reference that a value is, where it is one
abbrev pub ref_in : Term → Option Ref
ref_in (term.Ref r) = Some r
ref_in _ = None

-- the reference that the value of a variable is
abbrev pub ref_of_var : Environment → Var → Option Ref
ref_of_var env x = ref_in (value_of_var env x.0)

-- by the rule for `bind` or `clear`; its answer is whether there is such a marker
abbrev pub marked_by : ProcessState → Bool × Inbox → Body
marked_by s (is, inbox) = record { state = inboxed (at_next s) inbox; outcome = outcome.Answered is; posts = [] }

-- a value that is no reference has none
abbrev pub at_marker : ProcessState → (Ref → Bool × Inbox) → Option Ref → Body
at_marker s rule r = marked_by s (option_map_or rule r (false, s.tables.inbox))

-- the reserve becomes the mark of the variable's value
abbrev pub binding : ProcessState → Var → Body
binding s x = at_marker s (bound_in (owner_of s.tables) s.tables.inbox) (ref_of_var s.tables.env x)

-- the mark of the variable's value is taken out
abbrev pub clearing : ProcessState → Var → Body
clearing s x = at_marker s (cleared_in s.tables.inbox) (ref_of_var s.tables.env x)

-- the reference of a receive's marker
abbrev pub using_ref : Environment → Option Var → Option Ref
using_ref env using = option_and_then (ref_of_var env) using

-- how many messages lie before the mark of a receive's reference; none where no such mark stands
abbrev pub marked_start : ProcessState → Option Var → ℕ
marked_start s using = start_of s.tables.inbox (using_ref s.tables.env using)

-- Where the scan of a receive begins, told by where the mark stands: the runtime's begins there, and the manual's at the oldest
-- message.
abbrev pub from_mark : ℕ → ℕ
from_mark start = start

abbrev pub from_oldest : ℕ → ℕ
from_oldest start = 0

-- what the scan of the messages behind the first `from` ones finds
abbrev pub hit_from : ℕ → List Clause → ProcessState → Option Hit
hit_from from clauses s = hit clauses s.tables.env (drop from (terms_of s.tables.inbox.messages))

-- The message at a place, which the scan found, is taken out, the variables of the clause's pattern are bound, and the process goes
-- on at the clause's target. The event tells how many messages there are from the mark's start up to that one.
abbrev pub taking : Declared → ProcessState → ℕ → ℕ → Hit → Body
taking p s start at h = record {
  state = with_tables (at_place s (place_after p.labels h.target s.counts.place))
      (record s.tables { env = h.env; inbox = without_message s.tables.inbox at });
  outcome = outcome.Took (h.clause + 1) (at + 1 - start) h.message;
  posts = [];
}

-- A receive takes what the scan from a place on finds; where that finds nothing it goes on with `after`, or can't be executed.
abbrev pub receiving : Declared → ProcessState → Option After → ℕ → ℕ → Option Hit → Option Body
receiving p s after start from (Some h) = Some (taking p s start (from + h.at) h)
receiving p s (Some after) start from None =
    Some (going_on s (place_after p.labels after.target s.counts.place) (outcome.After (length s.tables.inbox.messages - start)))
receiving p s None start from None = None

-- the instruction at the process's place, where a receive's scan begins so; the place after the last one is a stop
abbrev pub exec_body : (ℕ → ℕ) → Declared → ProcessState → Option Instr → Option Body
exec_body begin p s None = Some (ending s normal)
exec_body begin p s (Some (instr.Send to message)) = Some (with_value s to (λ t. with_value s message (λ m. with_target s t (sending s m))))
exec_body begin p s (Some (instr.Set var value)) = Some (with_value s value (setting s var.0))
exec_body begin p s (Some (instr.MakeRef var)) = Some (making_ref s var.0)
exec_body begin p s (Some (instr.Link peer)) = Some (with_value s peer (λ t. with_pid s t (linking s)))
exec_body begin p s (Some (instr.Unlink peer)) = Some (with_value s peer (λ t. with_pid s t (unlinking s)))
exec_body begin p s (Some (instr.Monitor var target mode)) = Some (with_value s target (λ t. with_pid s t (monitoring s var.0 mode)))
exec_body begin p s (Some (instr.Demonitor reference flush)) = Some (with_value s reference (λ t. with_ref s t (demonitoring s flush)))
exec_body begin p s (Some (instr.Alias var reply)) = Some (aliasing s var.0 reply)
exec_body begin p s (Some (instr.Unalias reference)) = Some (with_value s reference (λ t. with_ref s t (unaliasing s)))
exec_body begin p s (Some (instr.Exit reason)) = Some (with_value s reason (ending s))
exec_body begin p s (Some (instr.ExitTo target reason)) = Some (with_value s target (λ t. with_value s reason (λ r. with_pid s t (sending_exit s r))))
exec_body begin p s (Some (instr.Trap on)) = Some (trapping s on)
exec_body begin p s (Some (instr.Goto label)) = Some (going_on s (place_after p.labels (Some label) s.counts.place) outcome.Done)
exec_body begin p s (Some instr.Stop) = Some (ending s normal)
exec_body begin p s (Some instr.Reserve) = Some (reserving s)
exec_body begin p s (Some (instr.Bind var)) = Some (binding s var)
exec_body begin p s (Some (instr.Clear var)) = Some (clearing s var)
exec_body begin p s (Some (instr.Receive r)) =
    let from = begin (marked_start s r.using) in receiving p s r.after (marked_start s r.using) from (hit_from from r.clauses s)

-- what the next instruction of the process does, where it can be executed
unfoldable pub executing : Declared → ProcessState → Option Body
executing p s = exec_body from_mark p s (slice_get p.instrs (s.counts.place - 1))

-- the same in the manual's words: a receive looks at all messages
unfoldable pub executing_whole : Declared → ProcessState → Option Body
executing_whole p s = exec_body from_oldest p s (slice_get p.instrs (s.counts.place - 1))

-- The process waits: its instruction is a receive without `after`, and no clause takes a message from the mark's start on
-- (Expressions, Receive).
pub record IsWaiting (p : Declared) (s : ProcessState) : Type 0 where
  pub receive : Receiving
  pub at : slice_get p.instrs (s.counts.place - 1) ≡ Some (instr.Receive receive)
  pub bare : receive.after ≡ None
  pub none : hit_from (marked_start s receive.using) receive.clauses s ≡ None

-- Where the instruction is a receive with a marker, no message before its start holds its reference.
abbrev pub SkipsNoneAt : ProcessState → Option Instr → Type 0
SkipsNoneAt s (Some (instr.Receive x)) =
    IfSome (using_ref s.tables.env x.using) (λ r. All (λ (t : Term). holds r t ≡ false) (take (marked_start s x.using) (terms_of s.tables.inbox.messages)))
SkipsNoneAt s _ = Unit {0}

-- the same of the next instruction of the process: its scan skips no message that could match
abbrev pub SkipsNone : Declared → ProcessState → Type 0
SkipsNone p s = SkipsNoneAt s (slice_get p.instrs (s.counts.place - 1))
