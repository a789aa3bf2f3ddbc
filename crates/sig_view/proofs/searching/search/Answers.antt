use Rattle.sig_view.proofs.OutcomeLemmas.{all_found}
use Rattle.sig_view.proofs.searching.search.Goals as goal

pub returns-clause-found : goal.returns-clause-found
returns-clause-found g c =
    all_found c.args.script.now c.args.states c.list_outcomes.result c.list_outcomes.ensures.endings c.list_outcomes.ensures.once c.list_outcomes.ensures.states
    c.list_outcomes.ensures.sized c.list_outcomes.ensures.all
