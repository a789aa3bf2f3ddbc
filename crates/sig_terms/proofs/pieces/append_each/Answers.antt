use Rattle.std.proofs.Common.{length, take, ap, ◌∙◌, rules}
use Rattle.sig_terms.proofs.Adding.{piece_more}
use Rattle.sig_terms.proofs.KeptFronts.{kept_put}
use Rattle.sig_terms.proofs.pieces.append_each.Goals as goal

pub loop-piece-preserved : goal.loop-piece-preserved
loop-piece-preserved c =
    piece_more (λ piece. piece.now) c.args.into.now.items c.loop-piece.into.items c.extend_from_slice.new.self.items c.args.pieces.now c.loop-piece.piece-index _ c.loop-piece-test.true c.loop-piece.invariant c.in_ok-extend_from_slice.ensures.items

pub returns-in_err-extend_from_slice-clause-front : goal.returns-in_err-extend_from_slice-clause-front
returns-in_err-extend_from_slice-clause-front c =
    let kept = ap (take (length c.args.into.now.items)) c.in_err-extend_from_slice.ensures.items ∙ kept_put c.args.into.now.items c.loop-piece.into.items _ c.loop-piece.invariant in
    search (rules, kept)
