use Rattle.std.proofs.Common.{rules}
use Rattle.sig_reader.proofs.draft.check_end.Goals as goal

pub returns : goal.returns
returns c = search rules
