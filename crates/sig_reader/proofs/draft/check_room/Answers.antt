use Rattle.std.proofs.Common.{rules}
use Rattle.sig_reader.proofs.draft.check_room.Goals as goal

pub returns : goal.returns
returns c = search rules
