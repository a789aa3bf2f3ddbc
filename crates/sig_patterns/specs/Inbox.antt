-- The messages of one process, and where a receive starts to look at them (Erlang Reference Manual, Expressions, Receive;
-- Processes, Receiving Signals). Arrival numbers are this project's own. The manual has no section on marks: they are an aid of
-- the runtime (its `recv_marker_reserve`, `recv_marker_bind` and `recv_marker_clear`), by which a receive that asks for a new
-- reference skips the messages that are older than it.
use Rattle.std.specs.Prelude.{ℕ, ◌+◌, ◌-◌, Bool, true, false, ◌&&◌, not, ◌==◌, List, [], ◌∷◌, ◌++◌, length, drop, map, filter, remove, position, nat_lt, nat_le, if◌then◌else◌, Option, Some, None, is_some, option_and_then}
use Rattle.std.specs.List.{find, count_by}
use Rattle.std.specs.Option.{option_map_or}
use Rattle.sig_terms.specs.declared.term.Term.{Term, out-Term}
use Rattle.sig_terms.specs.declared.term.Term.TheOpen.{Term-F}
use Rattle.sig_terms.specs.declared.term.Term.TheOpen as layer
use Rattle.sig_terms.specs.declared.term.Term.TheVariants as term
use Rattle.sig_terms.specs.declared.reference.Ref.{Ref}
use Rattle.sig_terms.specs.Nodes.{same_ref}
use Rattle.sig_patterns.specs.declared.mark.Reserve.{Reserve}
use Rattle.sig_patterns.specs.declared.mark.Mark.{Mark}
use Rattle.sig_patterns.specs.declared.mark.TheConstants.{MOST_MARKS}

-- the messages that no receive has taken, each with its arrival number, the oldest first; the next arrival number; the
-- pending reserve; and the marks in the order of their binding
pub record Inbox : Type 0 where
  pub messages : List (ℕ × Term)
  pub next_arrival : ℕ
  pub reserve : Option Reserve
  pub marks : List Mark

-- no message, no reserve and no mark; the first message will have the number 1
abbrev pub no_messages : Inbox
no_messages = record { messages = []; next_arrival = 1; reserve = None; marks = [] }

-- the message comes to the end, with the next arrival number
abbrev pub arrived_in : Inbox → Term → Inbox
arrived_in inbox message = record inbox { messages = inbox.messages ++ (inbox.next_arrival, message) ∷ []; next_arrival = inbox.next_arrival + 1 }

-- without the message at a place
abbrev pub without_message : Inbox → ℕ → Inbox
without_message inbox at = record inbox { messages = remove inbox.messages at }

-- whether a message tells of the end of what the reference monitors: a tuple of five whose second element is the reference
-- (module `erlang`, `demonitor/2`)
abbrev pub is_second_of_five : Ref → List Term → Bool
is_second_of_five r (a ∷ term.Ref q ∷ b ∷ c ∷ d ∷ []) = same_ref q r
is_second_of_five r _ = false

abbrev pub is_down_by : Ref → Term-F Term → Bool
is_down_by r (layer.Tuple elements) = is_second_of_five r elements
is_down_by r _ = false

abbrev pub is_down : Ref → Term → Bool
is_down r t = is_down_by r (out-Term t)

-- where the oldest such message is
abbrev pub down_place : Inbox → Ref → Option ℕ
down_place inbox r = position (λ m. is_down r m.1) inbox.messages

-- The oldest such message is removed (module `erlang`, `demonitor/2`, `flush`). The answer is whether there was one.
abbrev pub flushed_down : Inbox → Ref → Bool × Inbox
flushed_down inbox r = option_map_or (λ at. (true, without_message inbox at)) (down_place inbox r) (false, inbox)

-- no message, no reserve and no mark; the next arrival number stays
abbrev pub emptied_inbox : Inbox → Inbox
emptied_inbox inbox = record inbox { messages = []; reserve = None; marks = [] }

-- the messages without their numbers
abbrev pub terms_of : List (ℕ × Term) → List Term
terms_of messages = map (λ m. m.1) messages

-- the mark of a reference
abbrev pub mark_of : List Mark → Ref → Option Mark
mark_of marks reference = find (λ m. same_ref m.reference reference) marks

-- how many messages arrived before an arrival number
abbrev pub older_than : Inbox → ℕ → ℕ
older_than inbox arrival = count_by (λ m. nat_lt m.0 arrival) inbox.messages

-- Where a scan starts, as the count of the messages before it: behind those that are older than the mark of the reference,
-- where one stands, else at the head.
abbrev pub start_of : Inbox → Option Ref → ℕ
start_of inbox using = option_map_or (λ m. older_than inbox m.arrival) (option_and_then (mark_of inbox.marks) using) 0

-- A place behind all messages is reserved, with the next serial of a reference. It stands in for an older one.
abbrev pub reserved : Inbox → ℕ → Inbox
reserved inbox serial = record inbox { reserve = Some (record { arrival = inbox.next_arrival; serial = serial }) }

-- without the mark of a reference
abbrev pub without_mark : List Mark → Ref → List Mark
without_mark marks reference = filter (λ m. not (same_ref m.reference reference)) marks

-- the newest marks, as many as are kept
abbrev pub newest : List Mark → List Mark
newest marks = drop (length marks - MOST_MARKS) marks

-- the marks with a newer one, which stands in for an older mark of its reference
abbrev pub with_mark : List Mark → Mark → List Mark
with_mark marks mark = newest (without_mark marks mark.reference ++ mark ∷ [])

-- whether a process made the reference since it reserved the place
abbrev pub is_made_since : ℕ → Reserve → Ref → Bool
is_made_since owner reserve reference = (reference.owner.0 == owner) && nat_le reserve.serial reference.serial

-- the reserve is the newest mark, and is pending no more
abbrev pub marked_at : Inbox → Ref → Reserve → Inbox
marked_at inbox reference reserve = record inbox { reserve = None; marks = with_mark inbox.marks (record { reference = reference; arrival = reserve.arrival }) }

abbrev pub bound_by : ℕ → Inbox → Ref → Reserve → Bool × Inbox
bound_by owner inbox reference reserve = if is_made_since owner reserve reference then (true, marked_at inbox reference reserve) else (false, inbox)

-- The pending reserve of the process is bound to a reference that the process made since then. The answer is whether it was.
abbrev pub bound_in : ℕ → Inbox → Ref → Bool × Inbox
bound_in owner inbox reference = option_map_or (bound_by owner inbox reference) inbox.reserve (false, inbox)

-- The mark of a reference is taken out. The answer is whether there was one.
abbrev pub cleared_in : Inbox → Ref → Bool × Inbox
cleared_in inbox reference = (is_some (mark_of inbox.marks reference), record inbox { marks = without_mark inbox.marks reference })
