use Rattle.std.proofs.Common.{◌≡◌, ◌+◌, length, take}
use Rattle.sig_layout.specs.Rooms.{all_pieces}
use Rattle.sig_layout.proofs.pieces.Pieces.count.Given as goal

abbrev pub invariant-loop-piece : goal.invariant-loop-piece
invariant-loop-piece l = l.total ≡ length (all_pieces (take l.piece-index l.piece-items)) + l.initial.total
