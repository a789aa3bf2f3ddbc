-- The events that are drawn: those whose stamp is in the window (this project's own).
use Rattle.std.specs.Prelude.{ℕ, Bool, ◌&&◌, nat_le, List}
use Rattle.sig_record.specs.declared.report.Report.{Report}
use Rattle.sig_record.specs.declared.merging.MergedAt.{MergedAt}
use Rattle.sig_record.specs.Merging.{stamp_at}
use Rattle.sig_chart.specs.declared.window.Window.{Window}

-- both ends are in the window
abbrev pub is_within : Window → ℕ → Bool
is_within w stamp = nat_le w.from stamp && nat_le stamp w.to

abbrev pub is_shown : List Report → Window → MergedAt → Bool
is_shown reports w m = is_within w (stamp_at reports m)
