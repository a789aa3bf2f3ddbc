use Rattle.std.proofs.Common.{rules}
use Rattle.sig_process.proofs.receiving.scan_messages.Goals as goal

pub returns-then-is_saved-clause-ticks : goal.returns-then-is_saved-clause-ticks
returns-then-is_saved-clause-ticks g c = search rules

pub receive-requires-clause-asked : goal.receive-requires-clause-asked
receive-requires-clause-asked g c = c.requires.asked
