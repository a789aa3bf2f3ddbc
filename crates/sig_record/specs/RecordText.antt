-- The text of a record: one line for each fact. A record has one text.
use Rattle.std.specs.Prelude.{ℕ, List, ◌++◌, codes, decimal}
use Rattle.std.specs.List.{flat_map}
use Rattle.sig_terms.specs.TermText.{term_text}
use Rattle.sig_kinds.specs.declared.signal.Signal.{Signal}
use Rattle.sig_model.specs.declared.event.Event.{Event}
use Rattle.sig_model.specs.declared.state.State.{State}
use Rattle.sig_record.specs.declared.report.Left.{Left}
use Rattle.sig_record.specs.declared.report.Report.{Report}
use Rattle.sig_record.specs.Phrases.{phrase_text}
use Rattle.sig_record.specs.EventRows.{did_text, outcome_text, state_phrase}
use Rattle.sig_record.specs.KindRows.{kind_text}

-- what the line of an event says behind its stamp: what the process did, and what came of it
abbrev pub event_words : Event → List ℕ
event_words e = did_text e.did ++ codes " " ++ outcome_text e.outcome

unfoldable pub event_text : Event → List ℕ
event_text e = decimal e.stamp ++ codes " " ++ did_text e.did ++ codes " " ++ outcome_text e.outcome ++ codes "\n"

unfoldable pub left_text : Left → List ℕ
left_text l = codes "left " ++ decimal l.arrival ++ codes " " ++ term_text l.message ++ codes "\n"

unfoldable pub queued_text : Signal → List ℕ
queued_text s = codes "queued " ++ decimal s.from.0 ++ codes " " ++ decimal s.number ++ codes " " ++ decimal s.stamp ++ codes " " ++ kind_text s.kind ++ codes "\n"

abbrev pub state_text : State → List ℕ
state_text s = phrase_text (state_phrase s) ++ codes "\n"

abbrev pub head_text : ℕ → List ℕ → List ℕ
head_text pid name = codes "process " ++ decimal pid ++ codes " " ++ name ++ codes "\n"

-- one process's part
unfoldable pub report_text : Report → List ℕ
report_text r = head_text r.pid.0 r.name ++ flat_map event_text r.events ++ flat_map left_text r.left ++ flat_map queued_text r.queued ++ state_text r.state

-- the line with which each record begins
abbrev pub header_text : List ℕ
header_text = codes "sigrecord 1\n"

-- the parts of these processes
abbrev pub reports_text : List Report → List ℕ
reports_text reports = flat_map report_text reports

abbrev pub record_text : List Report → List ℕ
record_text reports = codes "sigrecord 1\n" ++ flat_map report_text reports
