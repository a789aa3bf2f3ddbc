-- What the command `chart` writes (this project's own).
use Rattle.std.specs.Prelude.{◌≡◌, ℕ, ◌≤◌, true, List, length, Result, Ok, Err, Vec, ⊤}
use Rattle.std.specs.List.{Contains}
use Rattle.std.specs.Global.{Global}
use Rattle.sig_kinds.specs.declared.signal.Signal.{Signal}
use Rattle.sig_program.specs.Scripts.{Program}
use Rattle.sig_model.specs.declared.origin.Origin.{Origin}
use Rattle.sig_choices.specs.Origins.{origin_of}
use Rattle.sig_record.specs.declared.report.Report.{Report}
use Rattle.sig_record.specs.declared.merging.MergedAt.{MergedAt}
use Rattle.sig_order.specs.declared.at.At.{At}
use Rattle.sig_order.specs.Happening.{is_there}
use Rattle.sig_chart.specs.Finding.{row_of}
use Rattle.sig_chart.specs.Shapes.{stub_from, stub_in}
use Rattle.sig_chart.specs.Drawn.{AreShown, AreTooMany, IsChart}
use Rattle.sig_chart.specs.declared.window.Window.{Window}
use Rattle.sig_chart.specs.declared.window.TheConstants.{MOST_EVENTS}
use Rattle.sig_view.specs.declared.status.ViewStatus.{ViewStatus}
use Rattle.sig_view.specs.declared.status.ViewStatus.TheVariants.{Memory, TooManyEvents}
use Rattle.sig_tool.specs.Origins.{AreOrigins}

-- no more events are of the window than a chart draws
abbrev pub HasFew : List Report → Window → Type 0
HasFew reports window = (shown : List MergedAt) × AreShown reports window shown × (length shown ≤ MOST_EVENTS)

-- the text is that of the chart of these events, with the origins of the signals of the run of which the record is
abbrev pub IsChartText : Program → List Report → Window → List ℕ → Type 0
IsChartText script reports window text = (origins : List Origin) × AreOrigins script reports origins × IsChart script reports origins window text

-- the same of origins that are at hand; where there are too many events that is told
abbrev pub IsDrawn : Program → List Report → List Origin → Window → Result (Vec ℕ Global) ViewStatus → Type 0
IsDrawn script reports origins window (Ok text) = IsChart script reports origins window text.items
IsDrawn script reports origins window (Err TooManyEvents) = AreTooMany reports window
IsDrawn script reports origins window (Err Memory) = ⊤
IsDrawn script reports origins window (Err _) = ⊥

-- The record has the event that sent the queued signal, as one of the origins tells, and the signal is drawn from that event's row; not at
-- all where the event isn't shown.
abbrev pub IsDrawnFromSender : List Report → List Origin → Window → List MergedAt → Signal → Type 0
IsDrawnFromSender reports origins w shown x =
    (e : At) × (e.pid ≡ x.from.0) × (is_there reports e ≡ true) × Contains origins (origin_of e.event x) ×
    (stub_in w origins shown x ≡ stub_from x (row_of 0 shown e.pid e.event))
