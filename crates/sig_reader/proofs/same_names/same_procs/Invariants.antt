use Rattle.std.proofs.Common.{◌≡◌, ◌↔◌, length}
use Rattle.sig_reader.specs.SameNames.{names_within}
use Rattle.sig_reader.proofs.same_names.same_procs.Given as goal

-- the processes so far have the same names
abbrev pub invariant-loop-proc : goal.invariant-loop-proc
invariant-loop-proc l = (names_within l.left ≡ names_within l.right) ↔ (names_within l.procs ≡ names_within l.others)

abbrev pub decreases-loop-proc : goal.decreases-loop-proc
decreases-loop-proc l = length l.left
