use Rattle.std.proofs.Common.{rules}
use Rattle.sig_process.proofs.posting.put.Goals as goal

pub returns-then-signal-pid-clause-own : goal.returns-then-signal-pid-clause-own
returns-then-signal-pid-clause-own c = search rules
