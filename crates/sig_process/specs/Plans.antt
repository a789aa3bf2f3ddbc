-- What a plan does to the state of a process.
use Rattle.std.specs.Prelude.{ℕ, ◌+◌, List, [], ◌∷◌, map, Option, Some, None}
use Rattle.std.specs.FinMap.{insert}
use Rattle.sig_terms.specs.declared.pid.Pid.{Pid}
use Rattle.sig_terms.specs.declared.term.Term.TheVariants as term
use Rattle.sig_patterns.specs.Environment.{Environment}
use Rattle.sig_kinds.specs.LinkRules.{LinkState, link, unlink, on_link, on_unlink, on_ack, deactivated}
use Rattle.sig_kinds.specs.WatchRules.{WatchState, monitor, demonitor, alias, unalias, on_alias_message, on_monitor, on_demonitor, on_down}
use Rattle.sig_patterns.specs.Inbox.{Inbox, arrived_in, flushed_down, reserved, bound_in, cleared_in}
use Rattle.sig_model.specs.ProcessState.{ProcessState, owner_of, Post, with_tables, inboxed, relinked, rewatched, ended_tables}
use Rattle.sig_model.specs.Bodies.{Body, at_place}
use Rattle.sig_process.specs.declared.plan.Outgoing.{Outgoing}
use Rattle.sig_process.specs.declared.changing.Change.{Change}
use Rattle.sig_process.specs.declared.changing.Change.TheVariants.{Nothing, Links, Watch, Trap, Append, ThroughAlias, ToldDown, End}
use Rattle.sig_process.specs.declared.changing.LinkChange.{LinkChange}
use Rattle.sig_process.specs.declared.changing.LinkChange.TheVariants.{Link, Unlink, LinkUp, UnlinkBy, Acknowledge}
use Rattle.sig_process.specs.declared.changing.WatchChange.{WatchChange}
use Rattle.sig_process.specs.declared.changing.WatchChange.TheVariants.{Monitor, Demonitor, Alias, Unalias, Watched, Unwatched}
use Rattle.sig_process.specs.declared.changing.Growing.{Growing}
use Rattle.sig_process.specs.declared.changing.Growing.TheVariants as grows
use Rattle.sig_process.specs.declared.plan.Plan.{Plan}
use Rattle.sig_process.specs.declared.plan.Posts.{Posts}
use Rattle.sig_process.specs.declared.plan.Posts.TheVariants as posts
use Rattle.sig_process.specs.declared.plan.Binding.{Binding}
use Rattle.sig_process.specs.declared.plan.Binding.TheVariants as binding
use Rattle.sig_process.specs.declared.plan.InboxChange.{InboxChange}
use Rattle.sig_process.specs.declared.plan.InboxChange.TheVariants as inbox_change
use Rattle.sig_process.specs.declared.plan.Execution.{Execution}

-- the table that the change may make larger
abbrev pub links_growing : LinkChange → Growing
links_growing (UnlinkBy peer) = grows.Nothing
links_growing (Acknowledge peer id) = grows.Nothing
links_growing _ = grows.Links

abbrev pub watch_growing : WatchChange → Growing
watch_growing (Demonitor reference) = grows.Nothing
watch_growing (Unalias reference) = grows.Nothing
watch_growing (Unwatched reference) = grows.Nothing
watch_growing _ = grows.Monitors

abbrev pub growing : Change → Growing
growing Nothing = grows.Nothing
growing (Links c) = links_growing c
growing (Watch c) = watch_growing c
growing (Trap on) = grows.Nothing
growing (End reason) = grows.Nothing
growing _ = grows.Messages

-- one equation for each change: in the links, in the monitors and aliases, and in all tables
abbrev pub links_by : LinkState → LinkChange → LinkState
links_by l (Link peer) = (link l peer.0).1
links_by l (Unlink peer) = (unlink l peer.0).1
links_by l (LinkUp peer) = (on_link l peer.0).1
links_by l (UnlinkBy peer) = (on_unlink l peer.0).1
links_by l (Acknowledge peer id) = (on_ack l peer.0 id).1

abbrev pub watch_by : WatchState → WatchChange → WatchState
watch_by w (Monitor reference target mode) = (monitor w reference target.0 mode).1
watch_by w (Demonitor reference) = (demonitor w reference).1
watch_by w (Alias reference reply) = alias w reference reply
watch_by w (Unalias reference) = (unalias w reference).1
watch_by w (Watched reference watcher) = on_monitor w reference watcher.0
watch_by w (Unwatched reference) = (on_demonitor w reference).1

abbrev pub changed : ProcessState → Change → ProcessState
changed s Nothing = s
changed s (Links c) = relinked s (links_by s.tables.links c)
changed s (Watch c) = rewatched s (watch_by s.tables.watch c)
changed s (Trap on) = record s { traps = on }
changed s (Append message) = inboxed s (arrived_in s.tables.inbox message)
changed s (ThroughAlias reference message) =
    with_tables s (record s.tables { inbox = arrived_in s.tables.inbox message; watch = (on_alias_message s.tables.watch reference).1 })
changed s (ToldDown reference message) = with_tables s (record s.tables { inbox = arrived_in s.tables.inbox message; watch = (on_down s.tables.watch reference).1 })
changed s (End reason) = with_tables s (ended_tables s.tables reason)

-- the link of an exit signal that is obeyed ends first
abbrev pub after_obeying : ProcessState → Option Pid → ProcessState
after_obeying s None = s
after_obeying s (Some peer) = relinked s (deactivated s.tables.links peer.0)

abbrev pub post_of : Outgoing → Post
post_of o = record { to = o.to.0; kind = o.kind }

-- what an event sends, in order
abbrev pub outgoing_of : Posts → List Outgoing
outgoing_of posts.Nothing = []
outgoing_of (posts.One outgoing) = outgoing ∷ []
outgoing_of (posts.Many all) = all.items

-- what the event does
abbrev pub body_of : ProcessState → Plan → Body
body_of s plan = record { state = changed (after_obeying s plan.obeyed) plan.change; outcome = plan.outcome; posts = map post_of (outgoing_of plan.posts) }

-- the variables, after one of them got a value, and the next serial
abbrev pub bound_by : Environment → Binding → Environment
bound_by env binding.Nothing = env
bound_by env (binding.Value var value) = insert env var.0 value
bound_by env (binding.Made var reference) = insert env var.0 (term.Ref reference)

abbrev pub serial_by : ℕ → Binding → ℕ
serial_by serial (binding.Made var reference) = serial + 1
serial_by serial _ = serial

abbrev pub bound : ProcessState → Binding → ProcessState
bound s b = record s { tables = record s.tables { env = bound_by s.tables.env b }; counts = record s.counts { next_serial = serial_by s.counts.next_serial b } }

-- the same, after which the process goes on at this place
abbrev pub placed : Body → ℕ → Body
placed b place = record b { state = at_place b.state place }

-- the messages and the markers of a process, one equation for each change
abbrev pub inbox_by : ℕ → Inbox → InboxChange → Inbox
inbox_by owner inbox inbox_change.Nothing = inbox
inbox_by owner inbox (inbox_change.Flush reference) = (flushed_down inbox reference).1
inbox_by owner inbox (inbox_change.Reserve serial) = reserved inbox serial
inbox_by owner inbox (inbox_change.Bind reference) = (bound_in owner inbox reference).1
inbox_by owner inbox (inbox_change.Clear reference) = (cleared_in inbox reference).1

abbrev pub arranged : ℕ → Body → InboxChange → Body
arranged owner b change = record b { state = inboxed b.state (inbox_by owner b.state.tables.inbox change) }

-- what the execution does
abbrev pub executed_body : ProcessState → Execution → Body
executed_body s x = placed (arranged (owner_of s.tables) (body_of (bound s x.binding) x.plan) x.inbox) x.place
