use Rattle.std.proofs.Common.{rules}
use Rattle.sig_tool.proofs.NumberLemmas.{not_digits, numbered}
use Rattle.sig_tool.proofs.numbers.number_in.Goals as goal

pub returns-then-not-are_digits : goal.returns-then-not-are_digits
returns-then-not-are_digits c = not_digits c.args.text.now (search rules)

pub returns : goal.returns
returns c = numbered c.args.text.now c.parse.result c.ok.result c.parse.ensures.value.0 c.ok.ensures.value (search rules)
