use Rattle.std.proofs.Common.{◌≡◌, List, length, get_or, replicate, IfSome, sym, ap, subst, ◌∙◌, arith}
use Rattle.sig_model.specs.declared.event.Event.{Event}
use Rattle.sig_record.specs.declared.report.Report.{Report}
use Rattle.sig_record.specs.declared.merging.MergedAt.{MergedAt}
use Rattle.sig_record.specs.Merging.{IsMerged, event_at}
use Rattle.sig_order.specs.declared.counts.Rows.{Rows}
use Rattle.sig_order.specs.Counting.{no_rows, AddsCounts}
use Rattle.sig_order.proofs.Reached.{IsReached, reached_none, process_within, reached_by, counted}
use Rattle.sig_order.proofs.happened.count_all.Goals as goal

pub count_event-requires : goal.count_event-requires
count_event-requires c =
    let merged : IsMerged c.args.given.now c.as_slice-at-items.result.now = subst (λ (o : List MergedAt). IsMerged c.args.given.now o) (sym c.as_slice-at-items.ensures) c.in_ok-order.ensures in
    process_within c.args.given.now c.args.origins.now c.as_slice-at-items.result.now c.requires merged c.loop-at.at-index c.loop-at.rows.items c.loop-at.invariant c.loop-at-test.true
    (record { pid = record { 0 = 0 }; place = 0 })

pub loop-at-preserved : goal.loop-at-preserved
loop-at-preserved c =
    let m : MergedAt = get_or c.as_slice-at-items.result.now c.loop-at.at-index (record { pid = record { 0 = 0 }; place = 0 }) in
    let merged : IsMerged c.args.given.now c.as_slice-at-items.result.now = subst (λ (o : List MergedAt). IsMerged c.args.given.now o) (sym c.as_slice-at-items.ensures) c.in_ok-order.ensures in
    reached_by c.args.given.now c.args.origins.now c.as_slice-at-items.result.now c.requires merged c.loop-at.at-index c.loop-at.rows.items c.loop-at.invariant c.loop-at-test.true
    (record { pid = record { 0 = 0 }; place = 0 }) c.in_ok-index.index.entries c.in_ok-index.ensures c.count_event.new.rows.items
    (subst (λ (rs : List Report). IfSome (event_at rs m) (λ (e : Event). AddsCounts c.loop-at.rows.items c.in_ok-index.index.entries m e.did c.count_event.new.rows.items)) c.reports-reports.ensures.reports c.in_ok-count_event.ensures)

pub returns : goal.returns
returns c =
    let merged : IsMerged c.args.given.now c.as_slice-at-items.result.now = subst (λ (o : List MergedAt). IsMerged c.args.given.now o) (sym c.as_slice-at-items.ensures) c.in_ok-order.ensures in
    let end : c.loop-at.at-index ≡ length c.as_slice-at-items.result.now = omega (arith, c.loop-at-test.false, c.loop-at.auto.at-index-end) in
    counted c.args.given.now c.args.origins.now c.as_slice-at-items.result.now c.requires merged c.loop-at.rows.items (record { pid = record { 0 = 0 }; place = 0 })
    (subst (λ n. IsReached c.args.given.now c.args.origins.now c.as_slice-at-items.result.now n c.loop-at.rows.items) end c.loop-at.invariant)

pub loop-at-init : goal.loop-at-init
loop-at-init c =
    subst (λ (rows : List Rows). IsReached c.args.given.now c.args.origins.now c.as_slice-at-items.result.now 0 rows) (sym (c.in_ok-rows.ensures ∙ ap (λ (rs : List Report). replicate (length rs) no_rows) c.reports-reports.ensures.reports))
    (reached_none c.args.given.now c.args.origins.now c.as_slice-at-items.result.now)
