use Rattle.std.proofs.Common.{◌≡◌, drop}
use Rattle.std.specs.Prelude.{slice_get}
use Rattle.sig_layout.specs.Runs.{listed}
use Rattle.sig_layout.proofs.numbers.Numbers.get.Given as goal

abbrev pub invariant-loop-at : goal.invariant-loop-at
invariant-loop-at l = slice_get (listed l.self-inside.runs.items l.self-inside.ones) l.index ≡ slice_get (listed (drop l.at l.self-inside.runs.items) l.self-inside.ones) l.left
