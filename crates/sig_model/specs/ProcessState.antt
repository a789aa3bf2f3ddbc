-- The state of one process (Erlang Reference Manual, Processes): its tables, and what it counts. What is defined table by table
-- stands here, up to what an event changes and what the end of the process leaves and tells of each. Stamps are Lamport's logical
-- clocks; turns, and being cut, are this project's own.
use Rattle.std.specs.Prelude.{ℕ, List, ◌++◌, map, length, Bool, true, false, ◌&&◌, ◌||◌, nat_le, Option, Some, None, is_none, replicate, All, IfSome}
use Rattle.std.specs.FinMap.{empty, get}
use Rattle.sig_terms.specs.declared.reference.Ref.{Ref}
use Rattle.sig_terms.specs.declared.term.Term.{Term}
use Rattle.sig_terms.specs.Names.{Named, names_of_ref, AllNames}
use Rattle.sig_kinds.specs.declared.signal.Kind.{Kind}
use Rattle.sig_kinds.specs.declared.signal.Kind.TheVariants as kind
use Rattle.sig_kinds.specs.LinkRules.{LinkState, unlinked, active_after}
use Rattle.sig_kinds.specs.LinkRules.{ending as links_ending}
use Rattle.sig_kinds.specs.WatchRules.{WatchState, unwatched, watch_ending}
use Rattle.sig_kinds.specs.SignalNames.{LinkNames, WatchNames}
use Rattle.sig_patterns.specs.declared.mark.Mark.{Mark}
use Rattle.sig_patterns.specs.Environment.{Environment}
use Rattle.sig_patterns.specs.Inbox.{Inbox, no_messages, emptied_inbox}
use Rattle.sig_model.specs.declared.state.TheConstants.{LAST_STAMP}

-- What a process holds. Every name in its state stands here.
pub record Tables : Type 0 where
  -- the values of the variables
  pub env : Environment
  -- the messages that no receive has taken, and the receive markers
  pub inbox : Inbox
  -- the active links, and the ids of the unlinks that their peers have not acknowledged
  pub links : LinkState
  -- the monitors held and borne, and the active aliases
  pub watch : WatchState
  -- the reason, where it has ended
  pub end : Option Term

-- What only counts.
pub record Counts : Type 0 where
  -- the place of the next instruction, from 1
  pub place : ℕ
  -- how many instructions it has executed, and the stamp of its last event
  pub executed : ℕ
  pub stamp : ℕ
  -- the next serial of a reference, and the next number for each peer, by pid
  pub next_serial : ℕ
  pub next_numbers : List ℕ

pub record ProcessState : Type 0 where
  pub tables : Tables
  -- whether it traps exits
  pub traps : Bool
  pub counts : Counts

-- the process of this pid, one of so many: at place 1, with all else empty; every count begins at 1
abbrev pub opening_tables : ℕ → Tables
opening_tables pid = record { env = empty; inbox = no_messages; links = unlinked pid; watch = unwatched pid; end = None }

abbrev pub opening_counts : ℕ → Counts
opening_counts count = record { place = 1; executed = 0; stamp = 0; next_serial = 1; next_numbers = replicate count 1 }

abbrev pub opening_state : ℕ → ℕ → ProcessState
opening_state pid count = record { tables = opening_tables pid; traps = false; counts = opening_counts count }

-- It isn't ended and has executed its turns; or, ended or not, its last stamp is at least 2^62.
abbrev pub is_cut : ℕ → ProcessState → Bool
is_cut turns s = (is_none s.tables.end && nat_le turns s.counts.executed) || nat_le LAST_STAMP s.counts.stamp

-- the process as whose own it makes references
abbrev pub owner_of : Tables → ℕ
owner_of t = t.watch.owner

-- the process with other tables
abbrev pub with_tables : ProcessState → Tables → ProcessState
with_tables s tables = record s { tables = tables }

-- the process with other messages and marks
abbrev pub inboxed : ProcessState → Inbox → ProcessState
inboxed s inbox = with_tables s (record s.tables { inbox = inbox })

-- the process with other links
abbrev pub relinked : ProcessState → LinkState → ProcessState
relinked s links = with_tables s (record s.tables { links = links })

-- the process with other monitors and aliases
abbrev pub rewatched : ProcessState → WatchState → ProcessState
rewatched s watch = with_tables s (record s.tables { watch = watch })

-- what is left at the end (Processes, Process Termination): the variables alone
abbrev pub ended_tables : Tables → Term → Tables
ended_tables t reason = record t { inbox = emptied_inbox t.inbox; links = links_ending t.links; watch = watch_ending t.watch; end = Some reason }

-- a signal to be sent: its receiver, and what it says
pub record Post : Type 0 where
  pub to : ℕ
  pub kind : Kind

-- an exit signal with this reason, of the link to each of these peers
abbrev pub exits_to : List ℕ → Term → List Post
exits_to peers reason = map (λ peer. record { to = peer; kind = kind.Exit reason true }) peers

-- a down with this reason, to the watcher of each of these monitors
abbrev pub downs_to : List (Ref × ℕ) → Term → List Post
downs_to borne reason = map (λ b. record { to = b.1; kind = kind.Down b.0 reason }) borne

-- What a process with these tables tells when it ends with this reason: the peers of its active links, by ascending pid, and then
-- those who monitor it, in the order of their monitors' arrival.
abbrev pub told_at_end : Tables → Term → List Post
told_at_end t reason = exits_to (active_after t.links None) reason ++ downs_to t.watch.borne reason

-- how many of these go to one peer at most, beside the exit signal of its link
abbrev pub downs_due : Tables → ℕ
downs_due t = length t.watch.borne

module _ (P : Named → Type 0) where
  -- what holds of every name in the values of the variables (Expressions, Variables)
  abbrev pub EnvironmentNames : Environment → Type 0
  EnvironmentNames env = (var : List ℕ) → IfSome (get env var) (AllNames P)

  -- the same of the messages and the marks
  pub record InboxNames (inbox : Inbox) : Type 0 where
    pub messages : All (λ (m : ℕ × Term). AllNames P m.1) inbox.messages
    pub marks : All (λ (m : Mark). All P (names_of_ref m.reference)) inbox.marks

  -- the same of all that a process holds
  pub record TableNames (t : Tables) : Type 0 where
    pub env : EnvironmentNames t.env
    pub inbox : InboxNames t.inbox
    pub links : LinkNames P t.links
    pub watch : WatchNames P t.watch
    pub end : IfSome t.end (AllNames P)
