-- The shapes of a chart, as a record of a run and the origins of its signals give them (this project's own). A lane for each process; a
-- mark for each event that is shown, in the row of its place in the order of these events; an arrow for each signal that one of them
-- handled; and one for each signal that one of them sent and that is still queued.
use Rattle.std.specs.Prelude.{ℕ, ◌+◌, Bool, true, false, List, [], ◌∷◌, ◌++◌, codes, map, length, Option, None, Some, if◌then◌else◌}
use Rattle.std.specs.List.{flat_map}
use Rattle.sig_kinds.specs.declared.signal.Signal.{Signal}
use Rattle.sig_program.specs.Scripts.{Program}
use Rattle.sig_model.specs.declared.event.Did.{Did}
use Rattle.sig_model.specs.declared.event.Did.TheVariants.{Exec, From}
use Rattle.sig_model.specs.declared.event.Event.{Event}
use Rattle.sig_model.specs.declared.origin.Origin.{Origin}
use Rattle.sig_model.specs.declared.state.State.{State}
use Rattle.sig_model.specs.declared.state.State.TheVariants as state
use Rattle.sig_terms.specs.TermText.{term_text}
use Rattle.sig_record.specs.declared.report.Report.{Report}
use Rattle.sig_record.specs.declared.merging.MergedAt.{MergedAt}
use Rattle.sig_record.specs.RecordText.{event_words}
use Rattle.sig_record.specs.KindRows.{kind_text}
use Rattle.sig_record.specs.Merging.{event_at}
use Rattle.sig_svg.specs.declared.shape.Lane.{Lane}
use Rattle.sig_svg.specs.declared.shape.Mark.{Mark}
use Rattle.sig_svg.specs.declared.shape.Arrow.{Arrow}
use Rattle.sig_svg.specs.declared.shape.Stub.{Stub}
use Rattle.sig_svg.specs.declared.shape.Chart.{Chart}
use Rattle.sig_chart.specs.declared.sources.Sources.{Sources}
use Rattle.sig_chart.specs.declared.window.Window.{Window}
use Rattle.sig_chart.specs.Finding.{event_of, sent_by, row_of}
use Rattle.sig_chart.specs.Sorts.{sort_of_kind, told_sort}
use Rattle.sig_chart.specs.Shown.{is_within}

-- ---- processes

abbrev pub standing : State → List ℕ
standing (state.Ended reason) = codes "ended " ++ term_text reason
standing state.Waiting = codes "waiting"
standing state.Cut = codes "cut"

abbrev pub lane_of : Report → Lane
lane_of r = record { pid = r.pid.0; name = r.name; state = standing r.state }

-- ---- events

abbrev pub is_handling : Did → Bool
is_handling (Exec place) = false
is_handling (From sender number) = true

abbrev pub mark : ℕ → ℕ → Event → Mark
mark row pid e = record { pid = pid; row = row; stamp = e.stamp; handled = is_handling e.did; text = event_words e }

abbrev pub mark_of : ℕ → ℕ → Option Event → List Mark
mark_of row pid None = []
mark_of row pid (Some e) = mark row pid e ∷ []

-- of the event that is shown in this row
abbrev pub mark_at : List Report → ℕ → MergedAt → List Mark
mark_at reports row m = mark_of row m.pid.0 (event_at reports m)

-- ---- signals that were handled

-- what a row is laid by: the script, the record, the origins of its signals, and the events that are shown
pub record Ground : Type 0 where
  pub script : Program
  pub reports : List Report
  pub origins : List Origin
  pub shown : List MergedAt

abbrev pub ground : Program → List Report → List Origin → List MergedAt → Ground
ground script reports origins shown = record { script = script; reports = reports; origins = origins; shown = shown }

abbrev pub ground_of : Sources → Ground
ground_of s = ground s.script.now s.reports.now s.origins.now s.shown.now

-- from the sender's event with this number
abbrev pub arrow_from : Ground → ℕ → ℕ → Event → ℕ → ℕ → ℕ → Arrow
arrow_from g row pid e sender number event = record {
  sort = told_sort g.script sender (event_of g.reports sender event) e.outcome;
  number = number;
  from = sender;
  start = row_of 0 g.shown sender event;
  to = pid;
  end = row;
}

-- from the event that sent the signal, which its origin names, to the event that handled it
abbrev pub arrow_by : Ground → ℕ → ℕ → Event → Did → List Arrow
arrow_by g row pid e (Exec place) = []
arrow_by g row pid e (From sender number) = arrow_from g row pid e sender.0 number (sent_by g.origins sender.0 pid number) ∷ []

abbrev pub arrow_of : Ground → ℕ → ℕ → Option Event → List Arrow
arrow_of g row pid None = []
arrow_of g row pid (Some e) = arrow_by g row pid e e.did

abbrev pub arrow_at : Ground → ℕ → MergedAt → List Arrow
arrow_at g row m = arrow_of g row m.pid.0 (event_at g.reports m)

-- ---- signals that are queued

abbrev pub stub_from : Signal → Option ℕ → List Stub
stub_from s None = []
stub_from s (Some row) = record { sort = sort_of_kind s.kind; from = s.from.0; start = row; to = s.to.0; text = kind_text s.kind } ∷ []

-- from the event that sent the signal, where it is shown
abbrev pub stub_of : List Origin → List MergedAt → Signal → List Stub
stub_of origins shown s = stub_from s (row_of 0 shown s.from.0 (sent_by origins s.from.0 s.to.0 s.number))

-- a signal has the stamp of the event that sent it, so one of another stamp was sent by none of the events that are shown
abbrev pub stub_in : Window → List Origin → List MergedAt → Signal → List Stub
stub_in w origins shown s = if is_within w s.stamp then stub_of origins shown s else []

abbrev pub stubs_of : Window → List Origin → List MergedAt → Report → List Stub
stubs_of w origins shown r = flat_map (stub_in w origins shown) r.queued

-- ---- all

-- what each event gives in its row, from this row on
abbrev pub by_rows : {X : Type 0} → (ℕ → MergedAt → List X) → ℕ → List MergedAt → List X
by_rows at row [] = []
by_rows at row (m ∷ ms) = at row m ++ by_rows at (row + 1) ms

abbrev pub chart_of : Window → Ground → Chart
chart_of w g = record {
  count = length g.script.procs;
  rows = length g.shown;
  lanes = map lane_of g.reports;
  marks = by_rows (mark_at g.reports) 0 g.shown;
  arrows = by_rows (arrow_at g) 0 g.shown;
  stubs = flat_map (stubs_of w g.origins g.shown) g.reports;
}
