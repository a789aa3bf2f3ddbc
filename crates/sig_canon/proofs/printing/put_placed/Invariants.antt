use Rattle.std.proofs.Common.{◌≡◌, ◌+◌, ◌++◌, take, drop, length}
use Rattle.std.specs.List.{flat_map}
use Rattle.sig_canon.specs.ScriptText.{names_of, placed_lines, line_text}
use Rattle.sig_canon.specs.Printing.{labels_from}
use Rattle.sig_canon.proofs.printing.put_placed.Given as goal

-- with the lines that are left, it is the whole; what was there stands in front
abbrev pub invariant-loop-instr : goal.invariant-loop-instr
invariant-loop-instr l =
    (l.place ≡ l.instr-index + 1)
    × (l.rest ≡ labels_from l.place l.labels)
    × (l.into.items ++ flat_map line_text (placed_lines (names_of l.procs) l.labels l.place (drop l.instr-index l.instrs)) ≡ l.fn.into.items ++ flat_map line_text (placed_lines (names_of l.procs) l.labels 1 l.instrs))
    × (take (length l.fn.into.items) l.into.items ≡ l.fn.into.items)
