use Rattle.std.proofs.Common.{◌≡◌, ◌+◌, ◌++◌, ◌≤◌, take, length, All}
use Rattle.std.specs.List.{flat_map}
use Rattle.sig_program.specs.declared.label.Label.{Label}
use Rattle.sig_program.specs.Scripts.{AreRising}
use Rattle.sig_canon.specs.ScriptText.{labels_there, line_text}
use Rattle.sig_canon.specs.Printing.{labels_from}
use Rattle.sig_canon.proofs.printing.put_labels.Given as goal

-- with the lines that are left, it is the whole; what was there stands in front
abbrev pub invariant-loop-label : goal.invariant-loop-label
invariant-loop-label l =
    (l.into.items ++ flat_map line_text (labels_there l.rest l.place) ≡ l.fn.into.items ++ flat_map line_text (labels_there l.labels l.place))
    × (labels_from (l.place + 1) l.rest ≡ labels_from (l.place + 1) l.labels)
    × AreRising l.rest
    × All (λ (m : Label). l.place ≤ m.place) l.rest
    × (take (length l.fn.into.items) l.into.items ≡ l.fn.into.items)

abbrev pub decreases-loop-label : goal.decreases-loop-label
decreases-loop-label l = length l.rest
