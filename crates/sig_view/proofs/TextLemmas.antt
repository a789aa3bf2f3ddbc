-- What is drawn or answered of the record that was read.
use Rattle.std.proofs.Common.{ℕ, List, Result, Ok, Err}
use Rattle.std.specs.Prelude.{Vec}
use Rattle.std.specs.Global.{Global}
use Rattle.sig_edge.specs.Streams.{Reading}
use Rattle.sig_program.specs.Scripts.{Program}
use Rattle.sig_model.specs.declared.origin.Origin.{Origin}
use Rattle.sig_record.specs.declared.report.Report.{Report}
use Rattle.sig_chart.specs.declared.window.Window.{Window}
use Rattle.sig_order.specs.declared.at.At.{At}
use Rattle.sig_tool.specs.Inputs.{IsSettledPair}
use Rattle.sig_tool.specs.Origins.{AreOrigins}
use Rattle.sig_view.specs.declared.command.Command.TheVariants.{Chart, Concurrent}
use Rattle.sig_view.specs.declared.status.ViewStatus.{ViewStatus}
use Rattle.sig_view.specs.declared.status.ViewStatus.TheVariants.{Done, BadScript, Usage, ReadFault, WriteFault, Memory, No, BadRecord, TooLong, NoEvent, TooManyEvents, NoOutcome, NotFound, Unfinished}
use Rattle.sig_view.specs.Charts.{IsDrawn}
use Rattle.sig_view.specs.Inputs.{IsRecordRead}
use Rattle.sig_view.specs.Ranges.{IsAnswered}

module _ (r : Reading) (script : Program) (reports : List Report) (origins : List Origin) (pair : IsSettledPair r script reports) (are : AreOrigins script reports origins) where
  pub answer_read : (event : At) (result : Result (Vec ℕ Global) ViewStatus) → IsAnswered reports origins event result → IsRecordRead (Concurrent event) r result
  answer_read event (Ok text) h = (script, reports, pair, (origins, are, h))
  answer_read event (Err Done) h = absurd h
  answer_read event (Err (BadScript line kind)) h = absurd h
  answer_read event (Err Usage) h = absurd h
  answer_read event (Err ReadFault) h = absurd h
  answer_read event (Err WriteFault) h = absurd h
  answer_read event (Err Memory) h = pair.whole.fine
  answer_read event (Err (No number)) h = absurd h
  answer_read event (Err (BadRecord line)) h = absurd h
  answer_read event (Err TooLong) h = absurd h
  answer_read event (Err NoEvent) h = (script, reports, pair, h)
  answer_read event (Err TooManyEvents) h = absurd h
  answer_read event (Err NoOutcome) h = absurd h
  answer_read event (Err (NotFound met)) h = absurd h
  answer_read event (Err (Unfinished states)) h = absurd h

  pub chart_read : (window : Window) (result : Result (Vec ℕ Global) ViewStatus) → IsDrawn script reports origins window result → IsRecordRead (Chart window) r result
  chart_read window (Ok text) h = (script, reports, pair, (origins, are, h))
  chart_read window (Err Done) h = absurd h
  chart_read window (Err (BadScript line kind)) h = absurd h
  chart_read window (Err Usage) h = absurd h
  chart_read window (Err ReadFault) h = absurd h
  chart_read window (Err WriteFault) h = absurd h
  chart_read window (Err Memory) h = pair.whole.fine
  chart_read window (Err (No number)) h = absurd h
  chart_read window (Err (BadRecord line)) h = absurd h
  chart_read window (Err TooLong) h = absurd h
  chart_read window (Err NoEvent) h = absurd h
  chart_read window (Err TooManyEvents) h = (script, reports, pair, h)
  chart_read window (Err NoOutcome) h = absurd h
  chart_read window (Err (NotFound met)) h = absurd h
  chart_read window (Err (Unfinished states)) h = absurd h
