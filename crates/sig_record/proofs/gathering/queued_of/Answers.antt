use Rattle.std.proofs.Common.{rules}
use Rattle.sig_record.proofs.gathering.queued_of.Goals as goal

pub returns : goal.returns
returns c = search rules
