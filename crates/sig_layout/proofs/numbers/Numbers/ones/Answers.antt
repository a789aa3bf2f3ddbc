use Rattle.std.proofs.Common.{◌∙◌, ℕ, List, length, refl, sym, ap}
use Rattle.std.proofs.lemmas.List.{length-replicate}
use Rattle.sig_layout.proofs.Numbering.{of_ones}
use Rattle.sig_layout.proofs.numbers.Numbers.ones.Goals as goal

pub invariant_of-result : goal.invariant_of-result
invariant_of-result c = (sym (length-replicate c.args.count 1) ∙ ap (λ (z : List ℕ). length z) (sym (of_ones c.new.result.items c.args.count c.new.ensures.items)), refl)

pub returns : goal.returns
returns c = of_ones c.new.result.items c.args.count c.new.ensures.items
