use Rattle.std.proofs.Common.{rules}
use Rattle.sig_layout.proofs.summary.Summary.churned.Goals as goal

pub returns-in-false-default-false : goal.returns-in-false-default-false
returns-in-false-default-false c = search rules

pub returns-in-true-true-default-2 : goal.returns-in-true-true-default-2
returns-in-true-true-default-2 c = search rules
