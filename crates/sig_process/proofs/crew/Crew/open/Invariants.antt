use Rattle.std.proofs.Common.{◌≡◌, ◌++◌, drop, length}
use Rattle.std.specs.Prelude.{All}
use Rattle.sig_model.specs.Keeping.{IsKeeping}
use Rattle.sig_model.specs.OneWorker.{opened_from}
use Rattle.sig_process.specs.Standing.{runnings_of}
use Rattle.sig_process.proofs.crew.Crew.open.Given as goal

-- the processes so far, and those that are left, are all
abbrev pub invariant-loop-pid : goal.invariant-loop-pid
invariant-loop-pid l =
    let count = length l.script.procs in
    record {
      rest : runnings_of l.procs.items ++ opened_from l.pid count l.script.turns (drop l.pid l.script.procs) ≡ opened_from 0 count l.script.turns l.script.procs;
      keeping : All IsKeeping (runnings_of l.procs.items);
      saved : All (λ p. p.saved ≡ 0) l.procs.items;
    }
