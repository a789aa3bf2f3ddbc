use Rattle.std.proofs.Common.{◌≡◌, ◌-◌}
use Rattle.sig_model.specs.OneWorker.{handle_all}
use Rattle.sig_workers.proofs.visiting.handle_at_most.Given as goal

-- what is left to handle leads to what all leads to
abbrev pub invariant-loop-i : goal.invariant-loop-i
invariant-loop-i l = handle_all (l.count - l._i) l.process.running ≡ handle_all l.count l.fn.process.running
