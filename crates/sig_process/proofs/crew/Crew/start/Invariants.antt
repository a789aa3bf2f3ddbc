use Rattle.std.proofs.Common.{◌≡◌, ◌+◌, ◌++◌, length}
use Rattle.std.specs.Prelude.{All}
use Rattle.std.specs.Vec.Iter.{into_iter_items}
use Rattle.sig_program.specs.Scripts.{IsProcBelow}
use Rattle.sig_model.specs.Keeping.{IsKeeping}
use Rattle.sig_model.specs.OneWorker.{opened_from}
use Rattle.sig_process.specs.Standing.{runnings_of}
use Rattle.sig_process.proofs.crew.Crew.start.Given as goal

-- the processes so far, and those that are left, are all
abbrev pub invariant-loop-proc : goal.invariant-loop-proc
invariant-loop-proc l =
    let all = l.fn.script.procs in
    let left = into_iter_items l.proc-iterator in
    let started = length l.procs.items in
    record {
      rest : runnings_of l.procs.items ++ opened_from started (length all) l.fn.script.turns left ≡ opened_from 0 (length all) l.fn.script.turns all;
      count : started + length left ≡ length all;
      below : All (IsProcBelow (length all)) left;
      keeping : All IsKeeping (runnings_of l.procs.items);
      saved : All (λ p. p.saved ≡ 0) l.procs.items;
    }
