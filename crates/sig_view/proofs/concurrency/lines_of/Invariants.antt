use Rattle.std.proofs.Common.{◌≡◌, ◌++◌, drop}
use Rattle.sig_view.specs.Ranges.{range_lines}
use Rattle.sig_view.proofs.concurrency.lines_of.Given as goal

-- the lines so far, and those of the processes that are left, are all
abbrev pub invariant-loop-pid : goal.invariant-loop-pid
invariant-loop-pid l = l.text.items ++ range_lines l.pid (drop l.pid l.fn.ranges) ≡ range_lines 0 l.fn.ranges
