use Rattle.std.proofs.Common.{◌≡◌, List, []}
use Rattle.sig_model.specs.Running.{Running}
use Rattle.sig_model.specs.Keeping.{IsPlaced}
use Rattle.sig_model.specs.OneWorker.{RunsTo, IsClear}
use Rattle.sig_process.specs.Standing.{runnings_of}
use Rattle.sig_workers.specs.Room.{room}
use Rattle.sig_workers.proofs.one_worker.run_passes.Given as goal

-- wherever the passes lead from here, they lead from the crew as it was given
abbrev pub invariant-loop-sent : goal.invariant-loop-sent
invariant-loop-sent g l = record {
  leads : (last : List Running) → RunsTo (runnings_of l.procs.items) last → RunsTo (runnings_of l.fn.crew) last;
  clear : IsClear (runnings_of l.procs.items);
  placed : IsPlaced (runnings_of l.procs.items);
  empty : l.sent.items ≡ [];
}

abbrev pub decreases-loop-sent : goal.decreases-loop-sent
decreases-loop-sent g l = room (runnings_of l.procs.items)
