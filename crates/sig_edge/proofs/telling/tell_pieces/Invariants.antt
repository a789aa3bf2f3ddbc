use Rattle.std.proofs.Common.{◌≡◌, take}
use Rattle.std.specs.List.{flat_map}
use Rattle.sig_base.specs.Flow.{Adds}
use Rattle.sig_edge.proofs.telling.tell_pieces.Given as goal

-- the pieces so far were added, and no write failed
abbrev pub invariant-loop-piece : goal.invariant-loop-piece
invariant-loop-piece g l =
    Adds (g.E.Sink.held l.fn.err) (g.E.Sink.held l.err) (flat_map (λ piece. piece.now) (take l.piece-index l.pieces))
    × (g.E.Sink.faults l.err ≡ g.E.Sink.faults l.fn.err)
