use Rattle.sig_queue.specs.Seats.{Queue}
use Rattle.sig_process.specs.Standing.{runnings_of}
use Rattle.std.proofs.Common.{◌≡◌, suc, ◌+◌, ◌++◌, [], ◌∷◌, List, ℕ, length, sym, ap, ◌∙◌, subst, arith, length-append}
use Rattle.sig_workers.specs.Opening.{AreOpened}
use Rattle.sig_workers.proofs.CutLemmas.{opened_push}
use Rattle.sig_workers.proofs.ColumnLemmas.{first_column, rest_columns, column_numbers}
use Rattle.sig_workers.proofs.opening.open_all.Goals as goal

pub take_first-first-requires : goal.take_first-first-requires
take_first-first-requires c = omega (arith, c.loop-at.invariant.left, c.loop-at-test.true)

pub pad-requires : goal.pad-requires
pad-requires c =
    (first_column (length c.args.procs.now) c.loop-at.at (runnings_of c.args.procs.now) c.loop-at.columns.items c.take_first-first.new.list.items c.take_first-first.result
    c.take_first-first.ensures c.loop-at.invariant.columns c.loop-at-test.true).short

pub open_one-requires-clause-first : goal.open_one-requires-clause-first
open_one-requires-clause-first c =
    column_numbers (length c.args.procs.now) c.loop-at.at (runnings_of c.args.procs.now) c.take_first-first.result _
    (first_column (length c.args.procs.now) c.loop-at.at (runnings_of c.args.procs.now) c.loop-at.columns.items c.take_first-first.new.list.items c.take_first-first.result
    c.take_first-first.ensures c.loop-at.invariant.columns c.loop-at-test.true) c.pad.ensures

pub loop-at-preserved : goal.loop-at-preserved
loop-at-preserved c =
    let inv = c.loop-at.invariant in
    let both = opened_push c.args.policy (runnings_of c.args.procs.now) c.loop-at.at c.loop-at.queues.items c.loop-at.seats.items c.in_ok-queue.queue c.in_ok-queue.seat inv.many inv.opened c.in_ok-queue.ensures in
    let rest : length c.loop-at.columns.items ≡ suc (length c.take_first-first.new.list.items) = ap (λ (z : List (List ℕ)). length z) c.take_first-first.ensures in
    record {
      many = ap (λ (z : List Queue). length z) c.in_ok-push.ensures.items ∙ length-append c.loop-at.queues.items (c.in_ok-queue.queue ∷ []) ∙ ap (λ z. z + 1) inv.many;
      left = omega (arith, inv.left, rest);
      columns = rest_columns (length c.args.procs.now) c.loop-at.at (runnings_of c.args.procs.now) c.loop-at.columns.items c.take_first-first.new.list.items c.take_first-first.result
          c.take_first-first.ensures inv.columns;
      opened = subst (λ z. AreOpened c.args.policy (runnings_of c.args.procs.now) z c.push-in-loop-at.new.self.items) (sym c.in_ok-push.ensures.items)
          (subst (λ z. AreOpened c.args.policy (runnings_of c.args.procs.now) (c.loop-at.queues.items ++ c.in_ok-queue.queue ∷ []) z) (sym c.in_ok-push-2.ensures.items) both);
    }
