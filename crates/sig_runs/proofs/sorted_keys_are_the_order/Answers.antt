use Rattle.sig_runs.proofs.Sorting.{sorted_is_order}
use Rattle.sig_runs.proofs.sorted_keys_are_the_order.Goals as goal

pub returns : goal.returns
returns g c = λ rules crew stamp place keys once stamps sorted. sorted_is_order rules crew stamp place keys once stamps sorted
