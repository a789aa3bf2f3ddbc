use Rattle.std.proofs.Common.{◌∙◌}
use Rattle.sig_record.specs.declared.merging.MergedAt.{MergedAt}
use Rattle.sig_chart.specs.Shapes.{ground_of, arrow_at}
use Rattle.sig_chart.proofs.RowLemmas.{row_more}
use Rattle.sig_chart.proofs.laying.arrows_of.Goals as goal

pub loop-row-preserved : goal.loop-row-preserved
loop-row-preserved c =
    let d : MergedAt = record { pid = record { 0 = 0 }; place = 0 } in
    row_more (arrow_at (ground_of c.args.sources)) c.args.sources.shown.now c.loop-row.row d c.loop-row.arrows c.add_arrow.new.arrows c.loop-row-test.true c.in_ok-add_arrow.ensures
    ∙ c.loop-row.invariant
