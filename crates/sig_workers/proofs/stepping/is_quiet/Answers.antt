use Rattle.std.proofs.Common.{rules}
use Rattle.sig_workers.proofs.stepping.is_quiet.Goals as goal

pub returns-then-not-rings : goal.returns-then-not-rings
returns-then-not-rings c = search rules
