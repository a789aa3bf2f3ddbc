use Rattle.std.proofs.Common.{◌≡◌, length, vec_len}
use Rattle.std.specs.Prelude.{All}
use Rattle.sig_model.specs.Keeping.{IsArriving, IsPlaced}
use Rattle.sig_model.specs.OneWorker.{deliver_all}
use Rattle.sig_process.specs.Standing.{runnings_of}
use Rattle.sig_workers.proofs.visiting.deliver_each.Given as goal

-- what is left to deliver leads to what all leads to
abbrev pub invariant-loop-signal : goal.invariant-loop-signal
invariant-loop-signal l = record {
  rest : deliver_all l.signals.items (runnings_of l.procs.items) ≡ deliver_all l.fn.signals.items (runnings_of l.fn.procs.items);
  placed : IsPlaced (runnings_of l.procs.items);
  arriving : All (λ x. IsArriving x.to.0 (length l.procs.items) x) l.signals.items;
  len : vec_len l.procs ≡ vec_len l.fn.procs;
}

abbrev pub decreases-loop-signal : goal.decreases-loop-signal
decreases-loop-signal l = length l.signals.items
