use Rattle.sig_tokens.proofs.OrderLemmas.{cut_rises}
use Rattle.sig_tokens.proofs.line.cut_line.Goals as goal

pub returns-clause-rising : goal.returns-clause-rising
returns-clause-rising c = cut_rises c.args.version c.args.line.now c.cut_into.result c.cut_into.ensures.cut
