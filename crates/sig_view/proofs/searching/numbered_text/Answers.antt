use Rattle.sig_view.proofs.OutcomeLemmas.{found_is}
use Rattle.sig_view.proofs.searching.numbered_text.Goals as goal

pub returns : goal.returns
returns g c = λ names.
    found_is c.args.script.now c.args.states c.in_ok-found.found.endings.items c.in_ok-found.found.states c.in_ok-found.found.all c.in_ok-found.ensures.found c.in_ok-found.ensures.seen
    c.in_ok-found.ensures.ascending c.in_ok-found.ensures.stored names c.args.number c.found_text.result c.if-number-eq0.false c.found_text.ensures
