use Rattle.std.proofs.Common.{rules}
use Rattle.sig_view.specs.declared.ordering.Listed.{Listed}
use Rattle.sig_view.proofs.OrderLemmas.{texts_ascend}
use Rattle.sig_view.proofs.ordering.sort.Goals as goal

pub returns-clause-ascending : goal.returns-clause-ascending
returns-clause-ascending c = texts_ascend (λ (l : Listed). l.text.items) _ c.sort_unstable_by.ensures.sorted (λ a r q k. search rules)
