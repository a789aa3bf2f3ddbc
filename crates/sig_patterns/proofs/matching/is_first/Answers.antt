use Rattle.std.proofs.Common.{rules}
use Rattle.sig_patterns.proofs.matching.is_first.Goals as goal

pub returns-in-Some : goal.returns-in-Some
returns-in-Some c = search rules
