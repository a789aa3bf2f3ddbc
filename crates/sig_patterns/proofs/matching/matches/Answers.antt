use Rattle.std.proofs.Common.{sym, ◌∙◌}
use Rattle.sig_patterns.proofs.Walks.{is_some-match_of}
use Rattle.sig_patterns.proofs.matching.matches.Goals as goal

pub returns-clause-matched : goal.returns-clause-matched
returns-clause-matched g c = c.fits.ensures ∙ sym (is_some-match_of c.args.env.now c.args.pattern.now c.args.term.now)
