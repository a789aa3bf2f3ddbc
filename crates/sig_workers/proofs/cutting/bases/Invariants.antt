use Rattle.std.proofs.Common.{◌≡◌, All, length}
use Rattle.sig_workers.proofs.cutting.bases.Given as goal

abbrev pub invariant-loop-at : goal.invariant-loop-at
invariant-loop-at l = record {
  many : length l.all.items ≡ l._at;
  all : All (λ b. b.crew.value.items ≡ l.procs.items) l.all.items;
}
