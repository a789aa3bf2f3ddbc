use Rattle.std.proofs.Common.{◌<◌, length, arith}
use Rattle.std.proofs.lemmas.Grind.{common_steps}
use Rattle.sig_choices.specs.Choosing.{Acts, Refuses}
use Rattle.sig_players.specs.Players.{seen}
use Rattle.sig_players.proofs.PlayingLemmas.{set_ready, choice_refused, choice_made, choice_emptied, when_true, when_false, acts_pid, acts_count}
use Rattle.sig_players.proofs.playing.choose.Goals as goal

pub returns-then-not-made-clause-made : goal.returns-then-not-made-clause-made
returns-then-not-made-clause-made g c =
    let players = c.args.players.now.items in
    let p = c.index_mut.result.now in
    let lt : c.args.pid < length players = grind (arith, common_steps) in
    λ script law. choice_refused players c.args.pid p lt c.index_mut.ensures.value c.requires.empty script law c.args.did.now
    (when_false (Acts c.args.did.now (seen p) (seen c.act.new.self)) (Refuses c.args.did.now (seen p)) c.in_ok-made.made c.if-not-made.true c.in_ok-made.ensures.made)

pub post_all-requires-clause-ready : goal.post_all-requires-clause-ready
post_all-requires-clause-ready g c =
    let players = c.args.players.now.items in
    let p = c.index_mut.result.now in
    let q = c.act.new.self in
    let lt : c.args.pid < length players = grind (arith, common_steps) in
    let acts = when_true (Acts c.args.did.now (seen p) (seen q)) (Refuses c.args.did.now (seen p)) c.in_ok-made.made c.if-not-made.false c.in_ok-made.ensures.made in
    set_ready players c.args.pid p lt c.index_mut.ensures.value q c.requires.ready (c.in_ok-made.ensures.ready c.if-not-made.false)
    (acts_pid c.args.did.now (seen p) (seen q) acts) (acts_count c.args.did.now (seen p) (seen q) acts)

pub returns-clause-empty : goal.returns-clause-empty
returns-clause-empty g c = λ _.
    choice_emptied c.args.players.now.items c.args.pid c.act.new.self _ c.requires.empty c.in_ok-post_all.ensures.posted c.in_ok-post_all.ensures.empty

pub returns-clause-made : goal.returns-clause-made
returns-clause-made g c =
    let players = c.args.players.now.items in
    let p = c.index_mut.result.now in
    let q = c.act.new.self in
    let lt : c.args.pid < length players = grind (arith, common_steps) in
    let acts = when_true (Acts c.args.did.now (seen p) (seen q)) (Refuses c.args.did.now (seen p)) c.in_ok-made.made c.if-not-made.false c.in_ok-made.ensures.made in
    λ script law. choice_made players c.args.pid p lt c.index_mut.ensures.value c.requires.empty script law c.args.did.now q _ acts c.in_ok-post_all.ensures.posted
