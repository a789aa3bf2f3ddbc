use Rattle.std.proofs.Common.{◌≡◌, ◌<◌, ◌≤◌, length, arith, refl, subst, ◌∙◌}
use Rattle.std.proofs.lemmas.Grind.{common_steps}
use Rattle.std.proofs.lemmas.List.{length-map}
use Rattle.std.proofs.lemmas.Option.{slice_get_within}
use Rattle.sig_process.specs.Standing.{Standing, runnings_of}
use Rattle.sig_players.proofs.PlayingLemmas.{when_true, when_false}
use Rattle.sig_check.specs.Going.{SomeCanGo, IsStillAt}
use Rattle.sig_check.proofs.GoingLemmas.{still_none, still_more}
use Rattle.sig_check.proofs.resting.can_any_go.Goals as goal

pub loop-at-init : goal.loop-at-init
loop-at-init g c = record { len = refl; same = refl; still = still_none (runnings_of c.args.procs.now.items) }

pub returns-then-goes : goal.returns-then-goes
returns-then-goes g c =
    let mid = runnings_of c.loop-at.procs.items in
    let after = runnings_of c.can_go_at.new.procs.items in
    subst SomeCanGo c.loop-at.invariant.same (when_true (SomeCanGo mid) (IsStillAt c.loop-at.at mid after) c.in_ok-goes.goes c.if-goes.true c.in_ok-goes.ensures.goes)

pub loop-at-preserved : goal.loop-at-preserved
loop-at-preserved g c =
    let first = runnings_of c.args.procs.now.items in
    let mid = runnings_of c.loop-at.procs.items in
    let after = runnings_of c.can_go_at.new.procs.items in
    let here : IsStillAt c.loop-at.at mid after = when_false (SomeCanGo mid) (IsStillAt c.loop-at.at mid after) c.in_ok-goes.goes c.if-goes.false c.in_ok-goes.ensures.goes in
    record {
      len = c.in_ok-goes.ensures.len ∙ c.loop-at.invariant.len;
      same = here.0 ∙ c.loop-at.invariant.same;
      still = still_more c.loop-at.at first mid after c.loop-at.invariant.same c.loop-at.invariant.still here;
    }

pub returns : goal.returns
returns g c =
    let le : length c.args.procs.now.items ≤ c.loop-at.at = grind (arith, common_steps) in
    let many : length (runnings_of c.args.procs.now.items) ≡ length c.args.procs.now.items = length-map c.args.procs.now.items (λ (z : Standing). z.running) in (
      c.loop-at.invariant.same,
      λ p r e.
          c.loop-at.invariant.still p r (let lt : p < length (runnings_of c.args.procs.now.items) = slice_get_within (runnings_of c.args.procs.now.items) p r e in omega (arith, lt, many, le)) e,
    )
