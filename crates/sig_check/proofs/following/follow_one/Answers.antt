use Rattle.std.proofs.Common.{◌≡◌, ◌<◌, None, length, ap, arith}
use Rattle.std.proofs.lemmas.Grind.{common_steps}
use Rattle.sig_runs.specs.Machine.{apply, choice}
use Rattle.sig_model.specs.Machine.{acted_at, rules_of}
use Rattle.sig_model.specs.SettledRun.{events_of}
use Rattle.sig_model.specs.CrewLaw.{machine_of}
use Rattle.sig_players.specs.Players.{crew_of}
use Rattle.sig_players.proofs.PlayingLemmas.{seen_at, when_true}
use Rattle.sig_choices.specs.Choosing.{HasMade}
use Rattle.sig_check.proofs.FollowingLemmas.{made_next}
use Rattle.sig_check.proofs.following.follow_one.Goals as goal

pub returns-clause-made : goal.returns-clause-made
returns-clause-made g c =
    let old = crew_of c.args.players.now.items in
    let new = crew_of c.choose.new.players.items in
    let p = c.index.result.now in
    let lt : c.args.pid < length c.choose.new.players.items = grind (arith, common_steps, c.in_ok-choose.ensures.within c.if-not-branch.false) in
    λ script law.
    made_next script old new c.args.pid c.args.event.now
    (when_true (HasMade script old c.args.pid (choice c.args.pid (acted_at c.args.event.now.did)) new) (apply (rules_of script) (machine_of script old) (choice c.args.pid (acted_at c.args.event.now.did)) ≡ None)
    c.in_ok-choose.field-0 c.if-not-branch.false (c.in_ok-choose.ensures.made script law))
    p.process.running.events (ap (λ o. events_of o) (seen_at c.choose.new.players.items c.args.pid p lt c.index.ensures)) c.has_last.result c.has_last.ensures
