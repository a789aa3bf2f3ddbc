use Rattle.std.proofs.Common.{rules, ◌∙◌}
use Rattle.sig_host.proofs.NumberLemmas.{not_digits, a_number, no_number}
use Rattle.sig_host.proofs.option_values.number_within.Goals as goal

pub returns-then-not-are_digits-clause-number : goal.returns-then-not-are_digits-clause-number
returns-then-not-are_digits-clause-number c = not_digits c.args.least c.args.most c.args.text.now (search rules)

pub returns-in-Ok-clause-number : goal.returns-in-Ok-clause-number
returns-in-Ok-clause-number c = c.within.ensures.number ∙ a_number c.args.least c.args.most c.args.text.now c.parse.result _ c.parse.ensures.value.0 c.in-Ok.is (search rules)

pub returns-in-Err-clause-number : goal.returns-in-Err-clause-number
returns-in-Err-clause-number c = no_number c.args.least c.args.most c.args.text.now c.parse.result _ c.ranges.most.fits c.parse.ensures.value.0 c.in-Err.is (search rules)
