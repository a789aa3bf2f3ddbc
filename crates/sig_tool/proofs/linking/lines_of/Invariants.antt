use Rattle.std.proofs.Common.{◌≡◌, ◌++◌, drop}
use Rattle.sig_tool.specs.Linking.{link_lines}
use Rattle.sig_tool.proofs.linking.lines_of.Given as goal

-- the lines so far, and those of the pairs that are left, are all
abbrev pub invariant-loop-pair : goal.invariant-loop-pair
invariant-loop-pair l = l.text.items ++ link_lines (drop l.pair-index l.pairs) ≡ link_lines l.pairs
