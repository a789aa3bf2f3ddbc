use Rattle.std.proofs.Common.{◌+◌, sym, subst, arith}
use Rattle.std.proofs.Math.Nat.{min-le_left, min-le_right, le-max_left, le-max_right}
use Rattle.sig_process.specs.SentTo.{AreFirstOutside}
use Rattle.sig_process.proofs.SentLemmas.{one_sent}
use Rattle.sig_process.proofs.next_numbers.NextNumbers.draw.Goals as goal

pub invariant_of-self : goal.invariant_of-self
invariant_of-self c =
    let low = c.self.inside.low in
    let high = c.self.inside.high in
    let peer = c.args.peer.0 in
    subst (AreFirstOutside c.min-self-inside.result c.max-self-inside.result) (sym c.draw_from-number.ensures.drawn)
    (one_sent low high c.min-self-inside.result c.max-self-inside.result peer _ c.self.inside.numbers.items c.self.invariant
    (omega (arith, c.min-self-inside.ensures, min-le_left low peer)) (omega (arith, c.min-self-inside.ensures, min-le_right low peer))
    (omega (arith, c.max-self-inside.ensures, le-max_left high (peer + 1))) (omega (arith, c.max-self-inside.ensures, le-max_right high (peer + 1))))
