-- What one event does, before its stamp and the numbers of its signals are put in.
use Rattle.std.specs.Prelude.{ℕ, ◌+◌, List, [], Option, Some, None, slice_get, codes}
use Rattle.std.specs.Option.{option_map_or}
use Rattle.sig_terms.specs.declared.term.Term.{Term}
use Rattle.sig_terms.specs.declared.term.Term.TheVariants as term
use Rattle.sig_patterns.specs.Inbox.{arrived_in}
use Rattle.sig_program.specs.declared.label.Label.{Label}
use Rattle.sig_model.specs.declared.event.Outcome.{Outcome}
use Rattle.sig_model.specs.declared.event.Outcome.TheVariants as outcome
use Rattle.sig_model.specs.ProcessState.{ProcessState, with_tables, inboxed, ended_tables, Post, told_at_end}

-- the new state but for stamp, counts and numbers; how the event went; and the signals that it sends, in order
pub record Body : Type 0 where
  pub state : ProcessState
  pub outcome : Outcome
  pub posts : List Post

-- where a process goes on from a place: at the label's, or at the next one
abbrev pub place_after : List Label → Option ℕ → ℕ → ℕ
place_after labels None place = place + 1
place_after labels (Some label) place = option_map_or (λ l. l.place) (slice_get labels label) (place + 1)

-- the process at another place, and at the next one
abbrev pub at_place : ProcessState → ℕ → ProcessState
at_place s place = record s { counts = record s.counts { place = place } }

abbrev pub at_next : ProcessState → ProcessState
at_next s = at_place s (s.counts.place + 1)

-- the process goes on at this place, and sends nothing
abbrev pub going_on : ProcessState → ℕ → Outcome → Body
going_on s place how = record { state = at_place s place; outcome = how; posts = [] }

-- the message comes to the end of the list
abbrev pub appending : ProcessState → Term → Body
appending s message = record {
  state = inboxed s (arrived_in s.tables.inbox message);
  outcome = outcome.Kept message;
  posts = [];
}

-- the signal has no effect
abbrev pub dropping : ProcessState → Body
dropping s = record { state = s; outcome = outcome.Dropped; posts = [] }

-- The process ends with this reason (Processes, Process Termination), and the others are told. Its messages, links, monitors,
-- aliases and markers are gone.
abbrev pub ending : ProcessState → Term → Body
ending s reason = record {
  state = with_tables s (ended_tables s.tables reason);
  outcome = outcome.Ended reason;
  posts = told_at_end s.tables reason;
}

-- the atoms that the machine names
abbrev pub normal : Term
normal = term.Atom (codes "normal")

abbrev pub badarg : Term
badarg = term.Atom (codes "badarg")

abbrev pub system_limit : Term
system_limit = term.Atom (codes "system_limit")

abbrev pub kill : Term
kill = term.Atom (codes "kill")

abbrev pub killed : Term
killed = term.Atom (codes "killed")

abbrev pub noproc : Term
noproc = term.Atom (codes "noproc")
