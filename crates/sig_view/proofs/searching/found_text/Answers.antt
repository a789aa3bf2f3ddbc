use Rattle.std.proofs.Common.{rules}
use Rattle.sig_view.proofs.searching.found_text.Goals as goal

pub returns-in-None : goal.returns-in-None
returns-in-None c = search rules
