use Rattle.std.proofs.Common.{rules}
use Rattle.sig_tool.proofs.status.ToolStatusFromCallError.from.Goals as goal

pub returns-in-Call : goal.returns-in-Call
returns-in-Call c = search rules
