use Rattle.std.proofs.Common.{sym, ◌∙◌}
use Rattle.sig_patterns.proofs.GuardLemmas.{unfit}
use Rattle.sig_patterns.proofs.accepting.accepts.Goals as goal

pub returns-else-fits-clause-taken : goal.returns-else-fits-clause-taken
returns-else-fits-clause-taken g c =
    c.if-fits.false ∙ sym (unfit c.args.clause.now c.args.env.now c.args.term.now (sym c.fits.ensures ∙ c.if-fits.false))
