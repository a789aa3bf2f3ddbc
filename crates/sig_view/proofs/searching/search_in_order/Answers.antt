use Rattle.sig_view.proofs.OutcomeLemmas.{found_still, seen_still}
use Rattle.sig_view.proofs.searching.search_in_order.Goals as goal

pub returns-clause-found : goal.returns-clause-found
returns-clause-found g c =
    found_still c.args.script.now c.args.states c.in_ok-found.found.endings.items c.in_ok-endings.endings.items c.in_ok-found.found.states c.in_ok-found.found.all
    c.in_ok-endings.ensures.same c.in_ok-found.ensures.found

pub returns-clause-seen : goal.returns-clause-seen
returns-clause-seen g c =
    seen_still c.args.script.now c.args.states c.in_ok-found.found.endings.items c.in_ok-endings.endings.items c.in_ok-found.found.states c.in_ok-found.found.all
    c.in_ok-endings.ensures.same c.in_ok-found.ensures.seen
