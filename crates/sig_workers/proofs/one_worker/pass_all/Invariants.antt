use Rattle.std.proofs.Common.{◌≡◌, ◌-◌, ◌<◌, ◌≤◌, [], length, vec_len, true}
use Rattle.sig_model.specs.Keeping.{IsPlaced}
use Rattle.sig_model.specs.OneWorker.{pass, pass_from, IsClear}
use Rattle.sig_process.specs.Standing.{runnings_of}
use Rattle.sig_workers.specs.Room.{room}
use Rattle.sig_workers.proofs.one_worker.pass_all.Given as goal

-- the visits that are left lead to what all lead to, and the room falls with an event
abbrev pub invariant-loop-at : goal.invariant-loop-at
invariant-loop-at g l = record {
  len : vec_len l.procs ≡ vec_len l.fn.procs;
  rest : pass_from (length l.fn.procs.items - l.at) l.at l.moved (runnings_of l.procs.items) ≡ pass (runnings_of l.fn.procs.items);
  placed : IsPlaced (runnings_of l.procs.items);
  empty : l.sent.items ≡ [];
  clear : IsClear (runnings_of l.fn.procs.items) → IsClear (runnings_of l.procs.items);
  most : room (runnings_of l.procs.items) ≤ room (runnings_of l.fn.procs.items);
  falls : l.moved ≡ true → room (runnings_of l.procs.items) < room (runnings_of l.fn.procs.items);
}
