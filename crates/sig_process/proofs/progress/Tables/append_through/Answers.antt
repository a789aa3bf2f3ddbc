use Rattle.std.proofs.Common.{rules}
use Rattle.sig_process.proofs.progress.Tables.append_through.Goals as goal

pub returns-clause-watch : goal.returns-clause-watch
returns-clause-watch c = search rules
