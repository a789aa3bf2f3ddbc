use Rattle.std.proofs.Common.{◌≡◌, ℕ, ◌+◌, ◌<◌, length, get_or, max}
use Rattle.sig_order.specs.Counting.{last_of, count_at}
use Rattle.sig_order.proofs.CountSteps.{count_more}
use Rattle.sig_order.proofs.counts.new_row.Goals as goal

pub loop-q-preserved : goal.loop-q-preserved
loop-q-preserved c =
    let more : (length c.push.new.self.items ≡ c.loop-q.q + 1) × ((k : ℕ) → k < c.loop-q.q + 1 → get_or c.push.new.self.items k 0 ≡ max (count_at c.args.rows.now (last_of c.args.at) k) (count_at c.args.rows.now c.args.sender k)) =
    count_more c.args.rows.now (last_of c.args.at) c.args.sender c.loop-q.counts.items c.push.new.self.items c.loop-q.q c.count.result c.count-in-loop-q.result c.max-n.result
    c.in_ok-push.ensures.items c.loop-q.invariant.many c.loop-q.invariant.each c.count.ensures c.count-in-loop-q.ensures c.max-n.ensures in
    record { many = more.0; each = more.1 }
