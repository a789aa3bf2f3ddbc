-- The record of a run (this project's own): for each process its events, what is left of its messages, the signals that it
-- has not handled, and how it stands.
use Rattle.std.specs.Prelude.{◌≡◌, ℕ, zero, suc, List, [], ◌++◌, map, filter, length, All, Bool, ◌==◌, Some, slice_get}
use Rattle.std.specs.List.Sorted.{IsNonDecreasingBy}
use Rattle.sig_terms.specs.declared.term.Term.{Term}
use Rattle.sig_kinds.specs.declared.signal.Signal.{Signal}
use Rattle.sig_model.specs.Running.{Running}
use Rattle.sig_model.specs.PrintedState.{printed_state}
use Rattle.sig_record.specs.declared.report.Left.{Left}
use Rattle.sig_record.specs.declared.report.Report.{Report}
use Rattle.sig_record.specs.Sorting.{sorted_by, is_lower}

-- the process at each place of the crew has this place as its pid
abbrev pub IsByPid : List Running → Type 0
IsByPid crew = (p : ℕ) (r : Running) → slice_get crew p ≡ Some r → r.pid ≡ p

-- a message with its arrival number
abbrev pub left_of : ℕ × Term → Left
left_of m = record { arrival = m.0; message = m.1 }

abbrev pub is_from : ℕ → Signal → Bool
is_from sender signal = signal.from.0 == sender

-- the signals of the senders below n, by ascending sender, and each sender's the oldest first
unfoldable pub queued_below : ℕ → List Signal → List Signal → List Signal
queued_below zero own others = []
queued_below (suc n) own others = queued_below n own others ++ filter (is_from n) own ++ filter (is_from n) others

-- the report of a process, with these signals queued
abbrev pub report_with : List Signal → Running → Report
report_with queued r = record {
  pid = record { 0 = r.pid };
  name = r.proc.name;
  events = r.events;
  left = map left_of r.state.tables.inbox.messages;
  queued = queued;
  state = printed_state r;
}

-- the report of a process, in a crew of so many
abbrev pub report_of : ℕ → Running → Report
report_of count r = report_with (queued_below count r.own r.taken_in) r

-- the report of a process, with its signals sorted by sender and then number
abbrev pub sorted_report : Running → Report
sorted_report r = report_with (sorted_by is_lower (r.own ++ r.taken_in)) r

abbrev pub record_of : List Running → List Report
record_of crew = map (report_of (length crew)) crew

-- the record, with each process's signals sorted
abbrev pub sorted_record : List Running → List Report
sorted_record crew = map sorted_report crew

-- the signals of each sender that wait for the process stand by ascending number
abbrev pub IsInOrder : Running → Type 0
IsInOrder r = (sender : ℕ) → IsNonDecreasingBy (λ (x : Signal). x.number) (filter (is_from sender) (r.own ++ r.taken_in))

abbrev pub AreInOrder : List Running → Type 0
AreInOrder crew = All IsInOrder crew
