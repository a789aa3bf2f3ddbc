use Rattle.std.proofs.Common.{List, subst}
use Rattle.sig_order.specs.declared.counts.Rows.{Rows}
use Rattle.sig_order.specs.Counting.{IsCounted}
use Rattle.sig_order.specs.Searching.{IsSpan}
use Rattle.sig_order.specs.Told.{Told}
use Rattle.sig_order.proofs.Spans.{is_range}
use Rattle.sig_order.proofs.happened.Happened.concurrent.Goals as goal

pub returns : goal.returns
returns c =
    let rows : List Rows = c.self.inside.rows.items in
    let counted : IsCounted c.args.self.now.reports c.args.self.now.origins rows = subst (λ (t : Told). IsCounted t.reports t.origins rows) c.self.view_is c.self.invariant in
    is_range c.args.self.now rows counted c.args.at c.requires c.args.pid c.span.result
    (subst (λ (rs : List Rows). IsSpan rs c.args.at c.args.pid c.span.result) c.as_slice.ensures.value c.span.ensures)
