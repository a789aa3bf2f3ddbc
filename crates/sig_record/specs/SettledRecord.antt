-- A record of a run that has come to rest (this project's own).
use Rattle.std.specs.Prelude.{◌-◌, Bool, true, false, ◌||◌, ◌==◌, nat_le, List, length, slice_get}
use Rattle.std.specs.List.{list_all, list_any}
use Rattle.std.specs.Option.{option_map_or}
use Rattle.sig_kinds.specs.declared.signal.Signal.{Signal}
use Rattle.sig_model.specs.declared.event.Event.{Event}
use Rattle.sig_model.specs.declared.state.State.{State}
use Rattle.sig_model.specs.declared.state.State.TheVariants.{Ended, Waiting, Cut}
use Rattle.sig_model.specs.declared.state.TheConstants.{LAST_STAMP}
use Rattle.sig_model.specs.PrintedState.{is_late_signal}
use Rattle.sig_record.specs.declared.report.Report.{Report}

abbrev pub is_cut : State → Bool
is_cut (Ended reason) = false
is_cut Waiting = false
is_cut Cut = true

-- there is an event, and the stamp of the last one is at least 2^62
abbrev pub ends_late : List Event → Bool
ends_late events = option_map_or (λ (e : Event). nat_le LAST_STAMP e.stamp) (slice_get events (length events - 1)) false

-- no signal waits, or one that is never handled
abbrev pub has_none_or_late : List Signal → Bool
has_none_or_late queued = length queued == 0 || list_any is_late_signal queued

-- it is cut, or its last stamp is at least 2^62, or no signal waits for it, or one that is never handled
abbrev pub is_settled_report : Report → Bool
is_settled_report r = is_cut r.state || ends_late r.events || has_none_or_late r.queued

abbrev pub is_settled : List Report → Bool
is_settled reports = list_all is_settled_report reports
