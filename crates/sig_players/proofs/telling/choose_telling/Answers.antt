use Rattle.std.proofs.Common.{◌<◌, ◌∙◌, ap, sym, subst, set, length, arith}
use Rattle.std.proofs.lemmas.List.{length-set}
use Rattle.std.proofs.lemmas.Grind.{common_steps}
use Rattle.sig_model.specs.SettledRun.{events_of}
use Rattle.sig_choices.specs.Choosing.{Acts, Refuses}
use Rattle.sig_players.specs.Players.{seen}
use Rattle.sig_players.proofs.PlayingLemmas.{set_ready, choice_refused, choice_made, choice_emptied, choice_told, seen_at, when_true, when_false, acts_pid, acts_count}
use Rattle.sig_players.proofs.telling.choose_telling.Goals as goal

pub returns-then-not-made-clause-made : goal.returns-then-not-made-clause-made
returns-then-not-made-clause-made g c =
    let players = c.args.players.now.items in
    let p = c.index_mut.result.now in
    let lt : c.args.pid < length players = grind (arith, common_steps) in
    λ script law. choice_refused players c.args.pid p lt c.index_mut.ensures.value c.requires.empty script law c.args.did.now
    (when_false (Acts c.args.did.now (seen p) (seen c.act_telling.new.self)) (Refuses c.args.did.now (seen p)) c.in_ok-made.made c.if-not-made.true c.in_ok-made.ensures.made)

pub post_telling-requires-clause-ready : goal.post_telling-requires-clause-ready
post_telling-requires-clause-ready g c =
    let players = c.args.players.now.items in
    let p = c.index_mut.result.now in
    let q = c.act_telling.new.self in
    let lt : c.args.pid < length players = grind (arith, common_steps) in
    let acts = when_true (Acts c.args.did.now (seen p) (seen q)) (Refuses c.args.did.now (seen p)) c.in_ok-made.made c.if-not-made.false c.in_ok-made.ensures.made in
    set_ready players c.args.pid p lt c.index_mut.ensures.value q c.requires.ready (c.in_ok-made.ensures.ready c.if-not-made.false)
    (acts_pid c.args.did.now (seen p) (seen q) acts) (acts_count c.args.did.now (seen p) (seen q) acts)

pub returns-clause-empty : goal.returns-clause-empty
returns-clause-empty g c = λ _.
    choice_emptied c.args.players.now.items c.args.pid c.act_telling.new.self _ c.requires.empty c.in_ok-post_telling.ensures.posted c.in_ok-post_telling.ensures.empty

pub returns-clause-made : goal.returns-clause-made
returns-clause-made g c =
    let players = c.args.players.now.items in
    let p = c.index_mut.result.now in
    let q = c.act_telling.new.self in
    let lt : c.args.pid < length players = grind (arith, common_steps) in
    let acts = when_true (Acts c.args.did.now (seen p) (seen q)) (Refuses c.args.did.now (seen p)) c.in_ok-made.made c.if-not-made.false c.in_ok-made.ensures.made in
    λ script law. choice_made players c.args.pid p lt c.index_mut.ensures.value c.requires.empty script law c.args.did.now q _ acts c.in_ok-post_telling.ensures.posted

pub returns-clause-told : goal.returns-clause-told
returns-clause-told g c =
    let players = c.args.players.now.items in
    let p = c.index_mut.result.now in
    let q = c.act_telling.new.self in
    let lt : c.args.pid < length players = grind (arith, common_steps) in
    let acts = when_true (Acts c.args.did.now (seen p) (seen q)) (Refuses c.args.did.now (seen p)) c.in_ok-made.made c.if-not-made.false c.in_ok-made.ensures.made in
    let still : c.args.pid < length (set players c.args.pid q) = subst (λ n. c.args.pid < n) (sym (length-set players c.args.pid q)) lt in
    λ script law made.
    choice_told players c.args.pid p lt c.index_mut.ensures.value c.requires.empty script law c.requires.ready c.args.did.now q acts _ c.args.origins.now _ _
    (c.len-event.ensures ∙ ap (λ es. length es) c.events.ensures ∙ ap (λ o. length (events_of o)) (sym (seen_at (set players c.args.pid q) c.args.pid c.index.result.now still c.index.ensures)))
    (c.in_ok-made.ensures.told c.if-not-made.false) c.in_ok-post_telling.ensures.told
