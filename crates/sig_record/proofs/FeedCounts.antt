-- There are no more line feeds than bytes.
use Rattle.std.proofs.Common.{ℕ, ◌≤◌, List, length, subst, sym}
use Rattle.std.proofs.lemmas.List.Sums.{length-filter, count_by-le-length}
use Rattle.sig_record.specs.FaultLine.{is_feed, feeds}

pub few_feeds : (bytes : List ℕ) → feeds bytes ≤ length bytes
few_feeds bytes = subst (λ (n : ℕ). n ≤ length bytes) (sym (length-filter is_feed bytes)) (count_by-le-length is_feed bytes)
