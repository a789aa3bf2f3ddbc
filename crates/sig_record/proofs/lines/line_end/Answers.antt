use Rattle.std.proofs.Common.{rules}
use Rattle.sig_record.proofs.lines.line_end.Goals as goal

pub returns : goal.returns
returns c = search rules
