-- Threads may read the reports of a record side by side: each type that a report has in it may be shared.
use denote.Param.Send.{IsSync, sendable}
use Rattle.std.proofs.Crossing.{crosses}
use Rattle.sig_terms.proofs.term.Term.TheLaws.TheKnot as term_knot
use Rattle.sig_kinds.specs.contracts.signal.Signal as signal
use Rattle.sig_model.specs.contracts.event.Event as event
use Rattle.sig_record.specs.contracts.report.Left as left
use Rattle.sig_record.specs.contracts.report.Report as report

signal_sync : IsSync signal.the_row
signal_sync = search (term_knot.sync-Term, crosses, sendable) depth 60 fits 20000

event_sync : IsSync event.the_row
event_sync = search (term_knot.sync-Term, crosses, sendable) depth 60 fits 20000

left_sync : IsSync left.the_row
left_sync = search (term_knot.sync-Term, crosses, sendable) depth 40

pub report_sync : IsSync report.the_row
report_sync = search (event_sync, left_sync, signal_sync, term_knot.sync-Term, crosses, sendable) depth 60 fits 20000
