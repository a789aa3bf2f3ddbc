use Rattle.std.proofs.Common.{◌≡◌, ◌++◌, take}
use Rattle.std.specs.List.{flat_map}
use Rattle.sig_terms.proofs.pieces.append_each.Given as goal

-- the pieces so far stand behind what was there
abbrev pub invariant-loop-piece : goal.invariant-loop-piece
invariant-loop-piece l = l.into.items ≡ l.fn.into.items ++ flat_map (λ piece. piece.now) (take l.piece-index l.pieces)
