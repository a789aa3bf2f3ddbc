use Rattle.std.proofs.Common.{arith}
use Rattle.std.proofs.lemmas.Grind.{common_steps}
use Rattle.sig_terms.proofs.numbers.number.Goals as goal

pub returns-then-first-eq48-clause-number : goal.returns-then-first-eq48-clause-number
returns-then-first-eq48-clause-number c = grind (arith, common_steps)
