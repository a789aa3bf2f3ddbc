use Rattle.sig_edge.proofs.TellingLemmas.{broken_off}
use Rattle.sig_edge.proofs.telling.tell_pieces.Goals as goal

pub returns-in_err-tell_piece-clause-told : goal.returns-in_err-tell_piece-clause-told
returns-in_err-tell_piece-clause-told g c =
    broken_off (λ piece. piece.now) c.args.pieces.now c.loop-piece.piece-index _ c.loop-piece-test.true _ _ _ _ _ _
    c.in_err-tell_piece.ensures.told.1.0 c.from_residual.result c.from_residual.ensures.0 c.loop-piece.invariant.0 c.loop-piece.invariant.1
    c.in_err-tell_piece.ensures.told.0 c.in_err-tell_piece.ensures.told.1.1
