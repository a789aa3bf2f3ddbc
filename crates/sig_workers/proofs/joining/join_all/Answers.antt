use Rattle.sig_workers.specs.Parts.{procs_of}
use Rattle.sig_workers.specs.Rows.{DoneRow, IsWhole}
use Rattle.sig_workers.specs.declared.part.Worked.{Worked}
use Rattle.std.specs.declared.alloc.AllocError.{AllocError}
use Rattle.std.proofs.Common.{◌≡◌, ◌<◌, ◌||◌, ◌∙◌, List, length, refl, sym, subst, arith, zero-add, Result, Ok}
use Rattle.std.proofs.lemmas.Bool.{eqb-true}
use Rattle.sig_workers.proofs.RowLemmas.{row_first, first_whole, row_ended, joined_whole, joined_row}
use Rattle.sig_workers.proofs.joining.join_all.Goals as goal

pub loop-done-preserved : goal.loop-done-preserved
loop-done-preserved c =
    let queues = c.args.queues.now in
    let crew = c.args.base.now.crew.value.items in
    let rest = c.take_first-in-loop-done.new.list.items in
    let row = row_first queues crew (length c.args.base.now.crew.value.items) c.in_ok-part.field-0 (Ok c.in_ok-part.field-0) c.loop-done.done.items rest c.in_ok-part.ensures refl (length (procs_of c.loop-done.whole.part)) c.loop-done.invariant.row in
    record {
      whole = joined_whole queues crew (length c.args.base.now.crew.value.items) c.loop-done.whole c.in_ok-part.field-0 (record { part = c.join_parts.new.part; moved = c.loop-done.whole.moved || c.in_ok-part.field-0.moved }) c.loop-done.invariant.whole row.1 row.3 row.4 c.in_ok-join_parts.ensures.part c.in_ok-join_parts.ensures.joined refl;
      row = joined_row queues crew (length c.args.base.now.crew.value.items) c.loop-done.whole c.in_ok-part.field-0 (record { part = c.join_parts.new.part; moved = c.loop-done.whole.moved || c.in_ok-part.field-0.moved }) c.loop-done.invariant.whole row.1 row.3 row.4 c.in_ok-join_parts.ensures.part c.in_ok-join_parts.ensures.joined refl rest row.5;
    }

pub join_parts-requires : goal.join_parts-requires
join_parts-requires c =
    let queues = c.args.queues.now in
    let crew = c.args.base.now.crew.value.items in
    let rest = c.take_first-in-loop-done.new.list.items in
    let whole = c.loop-done.invariant.whole in
    let row = row_first queues crew (length c.args.base.now.crew.value.items) c.in_ok-part.field-0 (Ok c.in_ok-part.field-0) c.loop-done.done.items rest c.in_ok-part.ensures refl (length (procs_of c.loop-done.whole.part)) c.loop-done.invariant.row in
    record { part = whole.is_part; other = row.0; next = omega (arith, row.1, whole.first); base = row.2 ∙ sym whole.base }

pub take_first-requires : goal.take_first-requires
take_first-requires c = subst (λ (xs : List (Result Worked AllocError)). 0 < length xs) (sym c.from_vec-done.ensures.items) (let lt : 0 < length c.args.done.items = omega (arith, c.requires.some, c.args.done.ok.0) in lt)

pub loop-done-init : goal.loop-done-init
loop-done-init c =
    let queues = c.args.queues.now in
    let crew = c.args.base.now.crew.value.items in
    let end = length c.args.base.now.crew.value.items in
    let first = c.in_ok-whole.whole in
    let rest = c.take_first.new.list.items in
    let row = row_first queues crew end first (Ok first) c.args.done.items rest (sym c.from_vec-done.ensures.items ∙ c.in_ok-whole.ensures) refl 0 c.requires.row in
    record { whole = first_whole queues crew end first rest row; row = subst (λ n. DoneRow queues crew n end rest) (zero-add (length (procs_of first.part))) row.5 }

pub returns : goal.returns
returns c =
    let queues = c.args.queues.now in
    let crew = c.args.base.now.crew.value.items in
    let end = length c.args.base.now.crew.value.items in
    let none : length c.loop-done.done.items ≡ 0 = omega (arith, c.loop-done.done.ok.0, eqb-true c.loop-done.done.len 0 (sym c.is_empty.ensures ∙ c.loop-done-test.false)) in
    let last = row_ended queues crew end (length (procs_of c.loop-done.whole.part)) c.loop-done.done.items none c.loop-done.invariant.row in
    subst (λ n. IsWhole queues crew n c.loop-done.whole) last c.loop-done.invariant.whole
