use Rattle.std.proofs.Common.{◌≡◌, ◌++◌, drop}
use Rattle.std.specs.List.{flat_map}
use Rattle.sig_chart.specs.Shapes.{stub_in}
use Rattle.sig_chart.proofs.laying.add_stubs.Given as goal

-- the arrows so far, and those of the signals that are left, are all
abbrev pub invariant-loop-signal : goal.invariant-loop-signal
invariant-loop-signal l =
    l.stubs ++ flat_map (stub_in l.window l.origins l.shown) (drop l.signal-index l.queued)
    ≡ l.fn.stubs ++ flat_map (stub_in l.window l.origins l.shown) l.queued
