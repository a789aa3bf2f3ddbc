use Rattle.sig_svg.proofs.EscapeLemmas.{escaped}
use Rattle.sig_svg.proofs.laws.escaped_bytes_are_no_markup.Goals as goal

pub returns : goal.returns
returns c = escaped
