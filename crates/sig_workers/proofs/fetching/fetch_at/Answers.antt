use Rattle.std.proofs.Common.{inl, inr}
use Rattle.sig_workers.proofs.FetchLemmas.{any_fetched}
use Rattle.sig_workers.proofs.fetching.fetch_at.Goals as goal

pub returns-in-Took : goal.returns-in-Took
returns-in-Took g c =
    any_fetched c.args.queue.now c.args.seat.now c.remove_due.new.seat c.try_fetch-got.new.seat c.args.into.now.items c.try_fetch-got.new.into.items c.try_fetch-got.result c.in_ok-remove_due.ensures c.requires.empty c.try_fetch-got.ensures.own c.try_fetch-got.ensures.fetched
    (λ e. elim c.in-Took.is [ inl w ↦ cc | inr w ↦ cc ])
