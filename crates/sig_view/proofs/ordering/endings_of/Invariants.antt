use Rattle.std.proofs.Common.{◌≡◌, ◌++◌, map}
use Rattle.std.specs.Vec.Iter.{into_iter_items}
use Rattle.sig_view.specs.declared.ordering.Listed.{Listed}
use Rattle.sig_view.proofs.ordering.endings_of.Given as goal

-- the records so far are those of what was taken
abbrev pub invariant-loop-one : goal.invariant-loop-one
invariant-loop-one l = record {
  those : l.endings.items ≡ map (λ (x : Listed). x.ending) l.yielded;
  whole : l.yielded ++ into_iter_items l.one-iterator ≡ l.fn.listed.items;
}
