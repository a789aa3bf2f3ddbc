use Rattle.std.proofs.Common.{◌≡◌, ◌≤◌, ◌+◌, ◌++◌, length}
use Rattle.sig_layout.proofs.batch.Batch.pour_into.Given as goal

abbrev pub invariant-loop-signal : goal.invariant-loop-signal
invariant-loop-signal l = record {
  moved : l.into.items ++ l.self-inside.signals.items ≡ l.initial.into.items ++ l.initial.self-inside.signals.items;
  room : length l.self-inside.signals.items ≤ l.into.spare;
  spare : l.initial.into.spare + length l.self-inside.signals.items ≤ l.into.spare + length l.initial.self-inside.signals.items;
}

abbrev pub decreases-loop-signal : goal.decreases-loop-signal
decreases-loop-signal l = length l.self-inside.signals.items
