-- What of a record stands at the front of bytes: a process's name, a line, a process's part.
use Rattle.std.specs.Prelude.{ℕ, ◌-◌, List, [], ◌∷◌, length, take, drop, Bool, false, not, ◌&&◌, ◌==◌, if◌then◌else◌, Option, Some, None, is_some, slice_get, codes}
use Rattle.std.specs.List.{prefix_len}
use Rattle.std.specs.Option.{option_map_or}
use Rattle.sig_terms.specs.Words.{is_digit, is_name_byte, is_name, is_token}
use Rattle.sig_terms.specs.Tokens.{◌>>=◌, after_text}
use Rattle.sig_kinds.specs.declared.signal.Kind.{Kind}
use Rattle.sig_kinds.specs.declared.signal.Signal.{Signal}
use Rattle.sig_model.specs.declared.event.Event.{Event}
use Rattle.sig_model.specs.declared.state.State.{State}
use Rattle.sig_record.specs.declared.report.Left.{Left}
use Rattle.sig_record.specs.declared.report.Report.{Report}
use Rattle.sig_record.specs.Sorting.{is_lower}
use Rattle.sig_record.specs.Readers.{Reader, read_as, passing, joined, spaced, ended, behind, many}
use Rattle.sig_record.specs.Phrases.{narrow, wide, term_front}
use Rattle.sig_record.specs.EventRows.{pid_of, did_front, outcome_front, standing_front}
use Rattle.sig_record.specs.KindRows.{kind_front}

-- the name of a process: a name token, no longer than a word may be
abbrev pub is_process_name : List ℕ → Bool
is_process_name bytes = is_name bytes && is_token bytes

abbrev pub name_front : Reader (List ℕ)
name_front bytes =
    let n = prefix_len is_name_byte bytes in
    if is_process_name (take n bytes) then Some (take n bytes, drop n bytes) else None

-- ---- lines

unfoldable pub event_front : Reader Event
event_front = read_as (λ x. record { stamp = x.0.0; did = x.0.1; outcome = x.1 }) (spaced (spaced wide did_front) (ended (codes "\n") outcome_front))

unfoldable pub left_front : Reader Left
left_front = read_as (λ x. record { arrival = x.0; message = x.1 }) (behind (codes "left ") (spaced wide (ended (codes "\n") term_front)))

-- a signal that waits for this process
abbrev pub signal_of : ℕ → ((ℕ × ℕ) × ℕ) × Kind → Signal
signal_of pid x = record { from = pid_of x.0.0.0; to = pid_of pid; number = x.0.0.1; stamp = x.0.1; kind = x.1 }

unfoldable pub signal_front : ℕ → Reader Signal
signal_front pid = read_as (signal_of pid) (behind (codes "queued ") (spaced (spaced (spaced narrow wide) wide) (ended (codes "\n") kind_front)))

-- the signal isn't lower than the last of these
abbrev pub may_follow : List Signal → Signal → Bool
may_follow signals s = not (option_map_or (is_lower s) (slice_get signals (length signals - 1)) false)

abbrev pub queued_front : ℕ → List Signal → Reader Signal
queued_front pid before = passing (may_follow before) (signal_front pid)

abbrev pub state_front : Reader State
state_front = ended (codes "\n") standing_front

unfoldable pub head_front : ℕ → Reader (ℕ × List ℕ)
head_front pid = passing (λ x. x.0 == pid) (behind (codes "process ") (spaced narrow (ended (codes "\n") name_front)))

-- ---- lists of lines, and records

abbrev pub begins_by_digit : List ℕ → Bool
begins_by_digit [] = false
begins_by_digit (b ∷ bs) = is_digit b

abbrev pub begins_by : List ℕ → List ℕ → Bool
begins_by text bytes = is_some (after_text text bytes)

abbrev pub events_front : Reader (List Event)
events_front = many begins_by_digit (λ _. event_front)

abbrev pub lefts_front : Reader (List Left)
lefts_front = many (begins_by (codes "left ")) (λ _. left_front)

abbrev pub all_queued_front : ℕ → Reader (List Signal)
all_queued_front pid = many (begins_by (codes "queued ")) (queued_front pid)

abbrev pub report_of_parts : ((((ℕ × List ℕ) × List Event) × List Left) × List Signal) × State → Report
report_of_parts x = record { pid = pid_of x.0.0.0.0.0; name = x.0.0.0.0.1; events = x.0.0.0.1; left = x.0.0.1; queued = x.0.1; state = x.1 }

-- the parts of a process's part, of which the first one is read so
abbrev pub parts_front : ℕ → Reader (ℕ × List ℕ) → Reader (((((ℕ × List ℕ) × List Event) × List Left) × List Signal) × State)
parts_front pid head = joined (joined (joined (joined head events_front) lefts_front) (all_queued_front pid)) state_front

unfoldable pub report_front : ℕ → Reader Report
report_front pid = read_as report_of_parts (parts_front pid (head_front pid))

abbrev pub reports_front : Reader (List Report)
reports_front = many (begins_by (codes "process ")) (λ before. report_front (length before))

-- the record of which these bytes are the text
unfoldable pub record_in : List ℕ → Option (List Report)
record_in bytes = behind (codes "sigrecord 1\n") reports_front bytes >>= λ x. if length x.1 == 0 then Some x.0 else None
