use Rattle.std.proofs.Common.{◌≡◌}
use Rattle.sig_reader.proofs.reader.seal_procs.Given as goal

-- each process so far is the one that was read
abbrev pub invariant-loop-draft : goal.invariant-loop-draft
invariant-loop-draft l = l.procs.items ≡ l.yielded
