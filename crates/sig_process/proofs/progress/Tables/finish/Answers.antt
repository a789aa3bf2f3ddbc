use Rattle.std.proofs.Common.{rules}
use Rattle.sig_process.proofs.progress.Tables.finish.Goals as goal

pub returns-clause-tables : goal.returns-clause-tables
returns-clause-tables c = search rules

pub returns-clause-queue : goal.returns-clause-queue
returns-clause-queue c = search rules
