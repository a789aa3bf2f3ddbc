use Rattle.std.proofs.Common.{sym, ap, subst, ◌∙◌}
use Rattle.sig_model.specs.Keeping.{IsPlaced}
use Rattle.sig_model.specs.CrewLaw.{IsLawfulCrew}
use Rattle.sig_process.specs.Standing.{runnings_of}
use Rattle.sig_check.proofs.OpeningLemmas.{none_waits, are_ready}
use Rattle.sig_check.proofs.opening.open.Goals as goal

pub seat_all-requires : goal.seat_all-requires
seat_all-requires c = none_waits c.args.script.now c.count.result (runnings_of c.crew.inside.procs.items) c.count.ensures.count (ap runnings_of c.crew.view_is ∙ c.in_ok-crew.ensures.opened)

pub returns-clause-ready : goal.returns-clause-ready
returns-clause-ready c =
    are_ready c.in_ok-players.players.items (runnings_of c.crew.inside.procs.items) c.in_ok-players.ensures.crew c.in_ok-players.ensures.each (subst IsPlaced (sym (ap runnings_of c.crew.view_is)) c.in_ok-crew.ensures.placed)

pub returns-clause-opened : goal.returns-clause-opened
returns-clause-opened c = c.in_ok-players.ensures.crew ∙ ap runnings_of c.crew.view_is ∙ c.in_ok-crew.ensures.opened

pub returns-clause-lawful : goal.returns-clause-lawful
returns-clause-lawful c = subst (IsLawfulCrew c.args.script.now) (sym (c.in_ok-players.ensures.crew ∙ ap runnings_of c.crew.view_is)) c.in_ok-crew.ensures.lawful
