use Rattle.sig_svg.proofs.PieceLemmas.{chart_is}
use Rattle.sig_svg.proofs.laws.a_chart_is_pieces.Goals as goal

pub returns : goal.returns
returns c = chart_is
