use Rattle.std.proofs.Common.{◌≡◌, ◌++◌, take}
use Rattle.std.specs.Prelude.{All}
use Rattle.std.specs.List.{flat_map}
use Rattle.sig_record.proofs.printing.put_each.Given as goal

abbrev pub invariant-loop-part : goal.invariant-loop-part
invariant-loop-part g l = record {
  text : l.into.items ≡ l.fn.into.items ++ flat_map g.P.Part.text (take l.part-index l.parts);
  stored : All g.P.Part.IsStored (take l.part-index l.parts);
}
