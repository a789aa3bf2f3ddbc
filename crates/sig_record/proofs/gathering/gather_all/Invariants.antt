use Rattle.std.proofs.Common.{◌≡◌, ◌++◌}
use Rattle.std.specs.Prelude.{All}
use Rattle.std.specs.Vec.Iter.{into_iter_items}
use Rattle.sig_model.specs.Keeping.{IsKeeping}
use Rattle.sig_model.specs.OneWorker.{IsClear}
use Rattle.sig_process.specs.Standing.{runnings_of}
use Rattle.sig_record.specs.RecordOf.{sorted_record}
use Rattle.sig_record.proofs.gathering.gather_all.Given as goal

abbrev pub invariant-loop-process : goal.invariant-loop-process
invariant-loop-process l = record {
  reports : l.reports ≡ sorted_record (runnings_of l.yielded);
  keeping : All IsKeeping (runnings_of l.yielded);
  whole : l.yielded ++ into_iter_items l.process-iterator ≡ l.fn.procs.items;
  clear : IsClear (runnings_of (into_iter_items l.process-iterator));
}
