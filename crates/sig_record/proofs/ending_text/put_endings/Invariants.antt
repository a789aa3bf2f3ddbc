use Rattle.std.proofs.Common.{◌≡◌, ◌++◌, take}
use Rattle.std.specs.Prelude.{All}
use Rattle.std.specs.List.{flat_map}
use Rattle.sig_record.proofs.ending_text.put_endings.Given as goal

abbrev pub invariant-loop-ending : goal.invariant-loop-ending
invariant-loop-ending g l = record {
  text : l.into.items ≡ l.fn.into.items ++ flat_map g.E.Ending.text (take l.ending-index l.endings);
  stored : All g.E.Ending.IsStored (take l.ending-index l.endings);
}
