use Rattle.std.proofs.Common.{rules}
use Rattle.std.proofs.lemmas.List.Sorted.{answers_always}
use Rattle.std.proofs.lemmas.Result.{on_ok_weaker}
use Rattle.sig_record.proofs.QueueLemmas.{sender_and_number, sort_by_pairs}
use Rattle.sig_record.proofs.gathering.sort.Goals as goal

pub returns : goal.returns
returns c =
    let keys = answers_always _ _ _ (λ f a r next called. search rules) in
    on_ok_weaker c.sort_by_key.result (λ sorted. sort_by_pairs _ _ (sorted sender_and_number keys) (c.sort_by_key.ensures.stable sender_and_number keys)) c.sort_by_key.ensures.sorted
