use Rattle.std.proofs.Common.{◌≡◌, ◌++◌, take}
use Rattle.std.specs.List.{flat_map}
use Rattle.sig_call.proofs.expanded.put_parts.Given as goal

-- the parts so far stand behind what was there
abbrev pub invariant-loop-part : goal.invariant-loop-part
invariant-loop-part l = l.into.items ≡ l.fn.into.items ++ flat_map (λ part. part.now) (take l.part-index l.parts)
