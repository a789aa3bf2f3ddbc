use Rattle.std.proofs.Common.{rules, None}
use Rattle.sig_host.proofs.standard.ended.Goals as goal

-- nothing was run, so there is no summary
pub returns-in-Err-clause-end : goal.returns-in-Err-clause-end
returns-in-Err-clause-end g c = (None, search rules)
