use Rattle.std.proofs.Common.{ℕ, ◌+◌, ◌-◌, length, sym, ap, ◌∙◌}
use Rattle.sig_record.specs.LineReaders.{lines_on}
use Rattle.sig_record.proofs.ItemSteps.{goes_on, stops_here, ran_out}
use Rattle.sig_record.proofs.items.read_all.Goals as goal

pub loop-preserved : goal.loop-preserved
loop-preserved g c =
    let n : ℕ = length c.args.bytes.now in
    let begins = g.T.Item.begins in
    let front = g.T.Item.front c.args.pid in
    let read = ap (λ before. front before c.loop.rest.now) (sym c.as_slice.ensures) ∙ c.in_ok-item.ensures in
    ap (λ items. lines_on begins front (n - (c.loop.counter + 1)) items c.in_ok-item.behind.now) c.in_ok-add.ensures
    ∙ goes_on begins front n c.loop.counter c.loop.items c.loop.rest.now c.in_ok-item.item c.in_ok-item.behind.now _
    c.loop-test.true (sym c.begins.ensures ∙ c.if-not-begins.false) read c.loop.invariant

pub returns-then-not-begins : goal.returns-then-not-begins
returns-then-not-begins g c =
    stops_here g.T.Item.begins (g.T.Item.front c.args.pid) (length c.args.bytes.now - c.loop.counter) c.loop.items c.loop.rest.now _ (sym c.begins.ensures ∙ c.if-not-begins.true) c.loop.invariant

pub returns-then-begins : goal.returns-then-begins
returns-then-begins g c =
    ran_out g.T.Item.begins (g.T.Item.front c.args.pid) (length c.args.bytes.now) c.loop.counter c.loop.items c.loop.rest.now _ c.loop-test.false (sym c.begins-2.ensures ∙ c.if-begins.true) c.loop.invariant

pub returns-else-begins : goal.returns-else-begins
returns-else-begins g c =
    stops_here g.T.Item.begins (g.T.Item.front c.args.pid) (length c.args.bytes.now - c.loop.counter) c.loop.items c.loop.rest.now _ (sym c.begins-2.ensures ∙ c.if-begins.false) c.loop.invariant
