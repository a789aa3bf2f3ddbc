use Rattle.std.proofs.Common.{◌≡◌, ◌+◌, List, length, sym, subst}
use Rattle.sig_record.specs.declared.report.Report.{Report}
use Rattle.sig_record.specs.Records.{IsRecord}
use Rattle.sig_order.specs.Concurrent.{IsRange}
use Rattle.sig_view.proofs.RangeLemmas.{Each, each_more, range_at}
use Rattle.sig_view.proofs.concurrency.ranges_of.Goals as goal

pub loop-report-preserved : goal.loop-report-preserved
loop-report-preserved c =
    let kept : IsRecord c.reports-report-items.result.now = subst (λ (rs : List Report). IsRecord rs) (sym c.reports-report-items.ensures.reports) c.reports-report-items.ensures.kept in
    let its : IsRange c.args.told.now c.args.order.now.origins c.args.event c.loop-report.report-index c.concurrent-range.result =
    range_at c.args.told.now c.args.order.now.reports c.reports-report-items.result.now c.args.order.now.origins c.args.event c.concurrent-range.result c.loop-report.report-index
    c.report-item.result c.requires.same c.reports-report-items.ensures.reports kept c.loop-report-test.true c.report-item.is c.concurrent-range.ensures in
    let more : (length c.push.new.self.items ≡ c.loop-report.report-index + 1) × Each c.args.told.now c.args.order.now.origins c.args.event (c.loop-report.report-index + 1) c.push.new.self.items =
    each_more c.args.told.now c.args.order.now.origins c.args.event c.loop-report.ranges.items c.push.new.self.items c.loop-report.report-index c.concurrent-range.result
    c.in_ok-push.ensures.items c.loop-report.invariant.many c.loop-report.invariant.each its in
    record { many = more.0; each = more.1 }
