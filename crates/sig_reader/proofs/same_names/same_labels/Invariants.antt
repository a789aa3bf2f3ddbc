use Rattle.std.proofs.Common.{◌≡◌, ◌↔◌, length}
use Rattle.sig_reader.specs.SameNames.{label_names}
use Rattle.sig_reader.proofs.same_names.same_labels.Given as goal

-- the labels so far have the same names
abbrev pub invariant-loop-label : goal.invariant-loop-label
invariant-loop-label l = (label_names l.left ≡ label_names l.right) ↔ (label_names l.labels ≡ label_names l.others)

abbrev pub decreases-loop-label : goal.decreases-loop-label
decreases-loop-label l = length l.left
