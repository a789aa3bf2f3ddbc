use Rattle.std.proofs.lemmas.Grind.{common_steps}
use Rattle.std.proofs.Common.{◌≡◌, ◌<◌, ◌+◌, ◌++◌, [], ◌∷◌, List, length, None, slice_get, refl, sym, ap, ◌∙◌, arith, length-append, length-set}
use Rattle.sig_model.specs.Running.{Running}
use Rattle.sig_queue.specs.declared.account.Account.{Account}
use Rattle.sig_workers.proofs.PartLemmas.{standing_at, running_at}
use Rattle.sig_workers.proofs.CloseLemmas.{some_left, first_left, closed_rest, closed_more, kept_more}
use Rattle.sig_workers.proofs.closing.close_all.Goals as goal

pub loop-at-init : goal.loop-at-init
loop-at-init c = record {
  queues = c.from_vec-queues.ensures.items;
  seats = c.from_vec-seats.ensures.items;
  left = c.new-left.ensures;
  count = ap (λ (z : List Account). length z) c.new-receipts.ensures;
  procs = refl;
  rest = λ p le. refl;
  kept = λ i q at. (q, at, refl, refl);
  closed = λ p a t at. (let none : slice_get c.new-receipts.result p ≡ None = ap (λ z. slice_get z p) c.new-receipts.ensures in cc);
}

pub take_first-queue-requires : goal.take_first-queue-requires
take_first-queue-requires c =
    let end : c.loop-at.at < length c.args.procs.now.items = grind (arith, common_steps) in
    let many : length c.args.queues.items ≡ length c.args.procs.now.items = grind (arith, common_steps, c.requires.many) in
    some_left c.loop-at.at c.args.queues.items c.loop-at.queues.items c.loop-at.invariant.queues (omega (arith, end, many))

pub take_first-seat-requires : goal.take_first-seat-requires
take_first-seat-requires c =
    let end : c.loop-at.at < length c.args.procs.now.items = grind (arith, common_steps) in
    let as_many : length c.args.seats.items ≡ length c.args.procs.now.items = grind (arith, common_steps, c.requires.many) in
    some_left c.loop-at.at c.args.seats.items c.loop-at.seats.items c.loop-at.invariant.seats (omega (arith, end, as_many))

pub close_one-requires-clause-can : goal.close_one-requires-clause-can
close_one-requires-clause-can c =
    let inv = c.loop-at.invariant in
    let n = c.loop-at.at in
    let end : c.loop-at.at < length c.args.procs.now.items = grind (arith, common_steps) in
    let many : length c.args.queues.items ≡ length c.args.procs.now.items = grind (arith, common_steps, c.requires.many) in
    let as_many : length c.args.seats.items ≡ length c.args.procs.now.items = grind (arith, common_steps, c.requires.many) in
    let queue = first_left n c.args.queues.items c.loop-at.queues.items c.take_first-queue.new.list.items c.take_first-queue.result inv.queues c.take_first-queue.ensures in
    let seat = first_left n c.args.seats.items c.loop-at.seats.items c.take_first-seat.new.list.items c.take_first-seat.result inv.seats c.take_first-seat.ensures in
    let lt : n < length c.loop-at.procs.items = omega (arith, end, inv.procs) in
    let there = running_at c.loop-at.procs.items n c.index_mut.result.now lt c.index_mut.ensures.value in
    c.requires.can n c.take_first-queue.result c.take_first-seat.result c.index_mut.result.now.running queue.0 seat.0 (sym (inv.rest n (omega arith)) ∙ there)

pub loop-at-preserved : goal.loop-at-preserved
loop-at-preserved c =
    let inv = c.loop-at.invariant in
    let n = c.loop-at.at in
    let end : c.loop-at.at < length c.args.procs.now.items = grind (arith, common_steps) in
    let many : length c.args.queues.items ≡ length c.args.procs.now.items = grind (arith, common_steps, c.requires.many) in
    let as_many : length c.args.seats.items ≡ length c.args.procs.now.items = grind (arith, common_steps, c.requires.many) in
    let queue = first_left n c.args.queues.items c.loop-at.queues.items c.take_first-queue.new.list.items c.take_first-queue.result inv.queues c.take_first-queue.ensures in
    let seat = first_left n c.args.seats.items c.loop-at.seats.items c.take_first-seat.new.list.items c.take_first-seat.result inv.seats c.take_first-seat.ensures in
    let lt : n < length c.loop-at.procs.items = omega (arith, end, inv.procs) in
    let there = running_at c.loop-at.procs.items n c.index_mut.result.now lt c.index_mut.ensures.value in
    let procs = c.loop-at.procs.items in
    let pushed : c.add_receipt.new.receipts ≡ c.loop-at.receipts ++ c.in_ok-receipt.receipt ∷ [] = c.in_ok-add_receipt.ensures in
    record {
      queues = queue.1;
      left = c.in_ok-receipt.ensures.empty;
      seats = seat.1;
      count = ap (λ (z : List Account). length z) pushed ∙ length-append c.loop-at.receipts (c.in_ok-receipt.receipt ∷ []) ∙ ap (λ z. z + 1) inv.count;
      procs = length-set procs n c.close_one.new.process ∙ inv.procs;
      kept = kept_more c.args.procs.now.items procs n c.index_mut.result.now c.close_one.new.process (standing_at procs n c.index_mut.result.now lt c.index_mut.ensures.value)
          (ap (λ (z : Running). z.events) c.in_ok-receipt.ensures.closed.given) c.in_ok-receipt.ensures.saved inv.kept;
      rest = closed_rest c.args.queues.items c.args.seats.items c.args.procs.now.items procs n c.take_first-queue.result c.take_first-seat.result c.index_mut.result.now c.close_one.new.process c.in_ok-receipt.receipt c.loop-at.receipts c.add_receipt.new.receipts queue.0 seat.0 there inv.count inv.rest c.in_ok-receipt.ensures.closed pushed;
      closed = closed_more c.args.queues.items c.args.seats.items c.args.procs.now.items procs n c.take_first-queue.result c.take_first-seat.result c.index_mut.result.now c.close_one.new.process c.in_ok-receipt.receipt c.loop-at.receipts c.add_receipt.new.receipts queue.0 seat.0 there inv.count inv.rest c.in_ok-receipt.ensures.closed pushed inv.closed;
    }
