use Rattle.std.proofs.Common.{rules}
use Rattle.sig_process.proofs.posting.send_one.Goals as goal

pub returns-clause-own : goal.returns-clause-own
returns-clause-own c = search rules

pub returns-clause-outbox : goal.returns-clause-outbox
returns-clause-outbox c = search rules
