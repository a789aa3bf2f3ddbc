use Rattle.std.proofs.Common.{rules}
use Rattle.sig_record.proofs.pieces.narrow.Goals as goal

pub returns-in_err-n : goal.returns-in_err-n
returns-in_err-n c = search rules

pub returns : goal.returns
returns c = search rules
