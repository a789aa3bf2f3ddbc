use Rattle.sig_process.proofs.SentLemmas.{none_sent}
use Rattle.sig_process.proofs.next_numbers.NextNumbers.first.Goals as goal

pub invariant_of-result : goal.invariant_of-result
invariant_of-result c = none_sent c.args.count c.in_ok-numbers.numbers.items (c.in_ok-numbers.ensures.items_if_clones_equal (λ y e. e))

pub returns : goal.returns
returns c = c.in_ok-numbers.ensures.items_if_clones_equal (λ y e. e)
