use Rattle.std.proofs.Common.{rules, ◌≡◌, ◌+◌, ◌<◌, [], List, length, take, ap, ◌∙◌, arith, ℕ}
use Rattle.sig_kinds.specs.declared.signal.Signal.{Signal}
use Rattle.sig_layout.specs.Rooms.{all_pieces}
use Rattle.sig_layout.proofs.Pieced.{counted_more, or_any}
use Rattle.sig_layout.proofs.pieces.Pieces.count.Goals as goal

pub loop-piece-preserved : goal.loop-piece-preserved
loop-piece-preserved c = let ls : List (List Signal) = c.deref-piece-items.result.now in let i : ℕ = c.loop-piece.piece-index in let h : i < length ls = c.loop-piece-test.true in
    let new : c.in_ok-total-2.total ≡ c.loop-piece.total + c.len-in-loop-piece.result = search rules in let len : c.len-in-loop-piece.result ≡ length c.piece-item.result = search rules in
    let item = ap length (c.piece-item.is ∙ or_any ls i c.piece-item.result [] h) in let more = counted_more ls i h in let inv : c.loop-piece.total ≡ length (all_pieces (take i ls)) + c.in_ok-total.total = c.loop-piece.invariant in
    omega arith
