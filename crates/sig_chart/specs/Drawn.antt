-- What a chart is (this project's own).
use Rattle.std.specs.Prelude.{◌≡◌, ◌≤◌, ◌<◌, ℕ, List, length}
use Rattle.std.specs.List.{filter}
use Rattle.sig_program.specs.Scripts.{Program}
use Rattle.sig_model.specs.declared.origin.Origin.{Origin}
use Rattle.sig_record.specs.declared.report.Report.{Report}
use Rattle.sig_record.specs.declared.merging.MergedAt.{MergedAt}
use Rattle.sig_record.specs.Merging.{IsMerged}
use Rattle.sig_chart.specs.declared.window.Window.{Window}
use Rattle.sig_chart.specs.declared.window.TheConstants.{MOST_EVENTS}
use Rattle.sig_chart.specs.declared.error.ChartError.{ChartError}
use Rattle.sig_chart.specs.declared.error.ChartError.TheVariants.{TooManyEvents, Memory}
use Rattle.sig_chart.specs.Shown.{is_shown}
use Rattle.sig_chart.specs.Shapes.{ground, chart_of}
use Rattle.sig_svg.specs.Svg.{chart_text}

-- these are the record's events of the window, in the order of the record's events
pub record AreShown (reports : List Report) (w : Window) (shown : List MergedAt) : Type 0 where
  pub order : List MergedAt
  pub merged : IsMerged reports order
  pub those : shown ≡ filter (is_shown reports w) order

-- the text is that of the shapes that the events of the window give, which are no more than may be drawn
pub record IsChart (script : Program) (reports : List Report) (origins : List Origin) (w : Window) (svg : List ℕ) : Type 0 where
  pub shown : List MergedAt
  pub of_window : AreShown reports w shown
  pub few : length shown ≤ MOST_EVENTS
  pub text : svg ≡ chart_text (chart_of w (ground script reports origins shown))

-- more events than may be drawn
pub record AreTooMany (reports : List Report) (w : Window) : Type 0 where
  pub shown : List MergedAt
  pub of_window : AreShown reports w shown
  pub many : MOST_EVENTS < length shown

-- want of memory can come at any time
abbrev pub IsRefused : List Report → Window → ChartError → Type 0
IsRefused reports w TooManyEvents = AreTooMany reports w
IsRefused reports w Memory = Unit {0}
