use Rattle.std.proofs.Common.{◌≡◌, ◌∙◌, ◌<◌, [], length, arith}
use Rattle.std.specs.Prelude.{slice_index_or}
use Rattle.sig_workers.proofs.ColumnLemmas.{row_numbered, empty_columns, column_more, whole_column}
use Rattle.sig_workers.proofs.columns.all_columns.Goals as goal

pub loop-at-init : goal.loop-at-init
loop-at-init c =
    let e = empty_columns (length c.args.procs.now) c.in_ok-columns.columns.items c.in_ok-columns.ensures in
    record { many = e.0; columns = e.1 }

pub add_row-requires-clause-short : goal.add_row-requires-clause-short
add_row-requires-clause-short c p lt =
    let low : p < length c.args.procs.now = omega (arith, lt, c.loop-at.invariant.many) in
    (c.loop-at.invariant.columns p low).short

pub add_row-requires-clause-numbered : goal.add_row-requires-clause-numbered
add_row-requires-clause-numbered c =
    row_numbered c.args.procs.now c.loop-at.at (length c.loop-at.columns.items) c.index-procs-at.result c.loop-at-test.true c.index-procs-at.is c.requires.numbered c.loop-at.invariant.many

pub loop-at-preserved : goal.loop-at-preserved
loop-at-preserved c =
    let inv = c.loop-at.invariant in
    record {
      many = c.in_ok-add_row.ensures.many ∙ inv.many;
      columns = λ p lt. column_more c.args.procs.now c.loop-at.at p c.index-procs-at.result (slice_index_or c.loop-at.columns.items p []) (slice_index_or c.add_row.new.columns.items p [])
          c.loop-at-test.true c.index-procs-at.is (inv.columns p lt) (c.in_ok-add_row.ensures.next p (omega (arith, lt, inv.many)));
    }

pub returns-clause-columns : goal.returns-clause-columns
returns-clause-columns c p lt =
    let end : c.loop-at.at ≡ length c.args.procs.now = omega (arith, c.loop-at-test.false, c.loop-at.auto.at-end) in
    whole_column c.args.procs.now c.loop-at.at p (slice_index_or c.loop-at.columns.items p []) end (c.loop-at.invariant.columns p lt)
