-- The lines of a record at the front of bytes, and how many bytes are left where the first line begins that can't stand there.
use Rattle.std.specs.Prelude.{ℕ, List, length, ◌==◌, if◌then◌else◌, Result, Ok, Err, codes}
use Rattle.sig_terms.specs.Tokens.{after_text}
use Rattle.sig_kinds.specs.declared.signal.Signal.{Signal}
use Rattle.sig_model.specs.declared.event.Event.{Event}
use Rattle.sig_model.specs.declared.state.State.{State}
use Rattle.sig_record.specs.declared.report.Left.{Left}
use Rattle.sig_record.specs.declared.report.Report.{Report}
use Rattle.sig_record.specs.LineReaders.{Lines, or_left, go_on, one_line, then_lines, many_lines}
use Rattle.sig_record.specs.RecordFronts.{event_front, left_front, queued_front, state_front, head_front, begins_by_digit, begins_by, report_of_parts}

abbrev pub event_lines : Lines (List Event)
event_lines = many_lines begins_by_digit (λ _. one_line event_front)

abbrev pub left_lines : Lines (List Left)
left_lines = many_lines (begins_by (codes "left ")) (λ _. one_line left_front)

abbrev pub queued_lines : ℕ → Lines (List Signal)
queued_lines pid = many_lines (begins_by (codes "queued ")) (λ before. one_line (queued_front pid before))

-- the parts of a process's part, of which the first one is read so
abbrev pub parts_lines : ℕ → Lines (ℕ × List ℕ) → Lines (((((ℕ × List ℕ) × List Event) × List Left) × List Signal) × State)
parts_lines pid head = then_lines (then_lines (then_lines (then_lines head event_lines) left_lines) (queued_lines pid)) (one_line state_front)

-- the first line was read already
abbrev pub headed : ℕ × List ℕ → Lines (ℕ × List ℕ)
headed head bytes = Ok (head, bytes)

unfoldable pub report_lines : ℕ → Lines Report
report_lines pid bytes = go_on (parts_lines pid (one_line (head_front pid)) bytes) (λ x. Ok (report_of_parts x.0, x.1))

abbrev pub reports_lines : Lines (List Report)
reports_lines = many_lines (begins_by (codes "process ")) (λ before. report_lines (length before))

-- the record of which these bytes are the text
unfoldable pub record_lines : List ℕ → Result (List Report) ℕ
record_lines bytes =
    go_on (go_on (or_left (length bytes) (after_text (codes "sigrecord 1\n") bytes)) reports_lines) (λ x. if length x.1 == 0 then Ok x.0 else Err (length x.1))
