use Rattle.std.proofs.Common.{rules}
use Rattle.sig_record.proofs.lines.may_follow.Goals as goal

pub returns-in-Some : goal.returns-in-Some
returns-in-Some c = search rules
