use Rattle.std.proofs.Common.{◌+◌, ◌-◌, ◌≤◌, ◌≡◌, vec_len}
use Rattle.sig_base.specs.declared.end.End.TheVariants.{Ahead}
use Rattle.sig_base.specs.Flow.{Took}
use Rattle.sig_base.proofs.reading.read_all.Given as goal

-- what was taken so far is in the vector
abbrev pub invariant-loop-piece : goal.invariant-loop-piece
invariant-loop-piece g l =
    let left = g.S.Source.left in
    let faults = g.S.Source.faults in
    let end = g.S.Source.end in
    record {
      within : vec_len l.into ≤ l.limit + 1;
      took : Took (left l.fn.source) (left l.source) l.into.items;
      ahead : end l.fn.source ≡ Ahead → end l.source ≡ Ahead;
      count : faults l.source ≡ faults l.fn.source;
    }

abbrev pub decreases-loop-piece : goal.decreases-loop-piece
decreases-loop-piece g l = l.limit + 1 - vec_len l.into
