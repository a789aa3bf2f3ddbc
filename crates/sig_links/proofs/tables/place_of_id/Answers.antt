use Rattle.std.proofs.Common.{rules}
use Rattle.std.proofs.lemmas.List.Sorted.{answers_always}
use Rattle.sig_links.proofs.Places.{found_place, by_keys}
use Rattle.sig_links.proofs.tables.place_of_id.Goals as goal

pub returns-clause-place : goal.returns-clause-place
returns-clause-place c =
    let by_key = c.binary_search_by_key.ensures.position (λ entry. entry.0) (answers_always _ _ _ (λ f a r g called. search rules)) in
    found_place c.args.peer c.args.awaited.now _ c.requires (by_keys c.args.peer c.args.awaited.now _ by_key)
