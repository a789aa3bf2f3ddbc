use Rattle.std.proofs.Common.{◌≡◌, ℕ, ◌<◌, [], length, take}
use Rattle.std.specs.Prelude.{slice_index_or}
use Rattle.sig_process.specs.Standing.{runnings_of}
use Rattle.sig_workers.specs.Columns.{IsColumn}
use Rattle.sig_workers.proofs.columns.all_columns.Given as goal

abbrev pub invariant-loop-at : goal.invariant-loop-at
invariant-loop-at l = record {
  many : length l.columns.items ≡ length l.procs;
  columns : (p : ℕ) → p < length l.procs → IsColumn l.at p (runnings_of (take l.at l.procs)) (slice_index_or l.columns.items p []);
}
