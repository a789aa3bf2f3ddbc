use Rattle.std.proofs.Common.{◌≡◌, drop}
use Rattle.std.specs.List.{list_any}
use Rattle.sig_model.specs.PrintedState.{is_late_signal}
use Rattle.sig_process.proofs.parts.any_late.Given as goal

-- none so far is late
abbrev pub invariant-loop-at : goal.invariant-loop-at
invariant-loop-at l = list_any is_late_signal (drop l.at l.signals.items) ≡ list_any is_late_signal l.signals.items
