use Rattle.std.proofs.Common.{◌≡◌, inl, ap, sym, subst, ◌∙◌, slice_get}
use Rattle.sig_model.specs.CrewLaw.{IsLawfulCrew}
use Rattle.sig_model.specs.OneWorker.{IsClear}
use Rattle.sig_model.specs.Still.{IsStillCrew}
use Rattle.sig_process.specs.Standing.{runnings_of}
use Rattle.sig_players.specs.Players.{crew_of}
use Rattle.sig_players.proofs.PlayingLemmas.{when_true, when_false}
use Rattle.sig_check.specs.Going.{SomeCanGo}
use Rattle.sig_check.proofs.CheckLemmas.{ended_so, clear_of}
use Rattle.sig_check.proofs.checking.ends_so.Goals as goal

pub close-requires : goal.close-requires
close-requires g c = c.requires.ready.each

pub returns-then-goes : goal.returns-then-goes
returns-then-goes g c =
    let old = runnings_of c.in_ok-procs.procs.items in
    let new = runnings_of c.can_any_go.new.procs.items in
    λ script law. inl (subst SomeCanGo c.in_ok-procs.ensures (when_true (SomeCanGo old) ((new ≡ old) × IsStillCrew old) c.in_ok-goes.goes c.if-goes.true c.in_ok-goes.ensures))

pub gather-requires-clause-clear : goal.gather-requires-clause-clear
gather-requires-clause-clear g c =
    let old = runnings_of c.in_ok-procs.procs.items in
    let new = runnings_of c.can_any_go.new.procs.items in
    let w : (new ≡ old) × IsStillCrew old = when_false (SomeCanGo old) ((new ≡ old) × IsStillCrew old) c.in_ok-goes.goes c.if-goes.false c.in_ok-goes.ensures in
    subst IsClear (sym (w.0 ∙ c.in_ok-procs.ensures)) (clear_of (crew_of c.args.players.items) c.requires.empty)

pub gather-requires-clause-by_pid : goal.gather-requires-clause-by_pid
gather-requires-clause-by_pid g c =
    let old = runnings_of c.in_ok-procs.procs.items in
    let new = runnings_of c.can_any_go.new.procs.items in
    let w : (new ≡ old) × IsStillCrew old = when_false (SomeCanGo old) ((new ≡ old) × IsStillCrew old) c.in_ok-goes.goes c.if-goes.false c.in_ok-goes.ensures in
    λ p r at. (c.requires.ready.placed p r (ap (λ crew. slice_get crew p) (sym (w.0 ∙ c.in_ok-procs.ensures)) ∙ at)).0

pub returns : goal.returns
returns g c =
    let old = runnings_of c.in_ok-procs.procs.items in
    let new = runnings_of c.can_any_go.new.procs.items in
    let w : (new ≡ old) × IsStillCrew old = when_false (SomeCanGo old) ((new ≡ old) × IsStillCrew old) c.in_ok-goes.goes c.if-goes.false c.in_ok-goes.ensures in
    let same : new ≡ crew_of c.args.players.items = w.0 ∙ c.in_ok-procs.ensures in
    λ script law.
    ended_so (crew_of c.args.players.items) new c.args.given.now c.in_ok-gathered.gathered same
    (c.in_ok-gathered.ensures.lawful script (subst (IsLawfulCrew script) (sym same) law))
    (subst IsStillCrew c.in_ok-procs.ensures w.1) c.same-so.result c.same-so.ensures
