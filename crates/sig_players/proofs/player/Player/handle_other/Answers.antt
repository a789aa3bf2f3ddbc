use Rattle.std.proofs.Common.{sym, ◌∙◌}
use Rattle.std.proofs.lemmas.List.{nil_from_length}
use Rattle.sig_players.proofs.PlayerLemmas.{no_other, other_arrives, cant_other, other_ready, other_handled}
use Rattle.sig_players.proofs.player.Player.handle_other.Goals as goal

pub returns-in_default-clause-made : goal.returns-in_default-clause-made
returns-in_default-clause-made c = no_other c.args.self.now c.requires.ready c.args.sender c.requires.other c.in_default.ensures

pub arrive-requires : goal.arrive-requires
arrive-requires c = other_arrives c.args.self.now c.requires.ready c.args.sender c.in-Some.signal c.take_of.new.waiting c.in-Some.ensures

pub returns-then-not-can_handle-clause-made : goal.returns-then-not-can_handle-clause-made
returns-then-not-can_handle-clause-made c =
    cant_other c.args.self.now c.requires.ready c.args.sender c.requires.other c.in-Some.signal c.take_of.new.waiting c.in-Some.ensures
    (nil_from_length _ (sym c.own_count.ensures ∙ c.if-own_count-ne0.false)) c.arrive.new.process c.in_ok-arrive.ensures (sym c.can_handle.ensures ∙ c.if-not-can_handle.true)

pub returns-clause-ready : goal.returns-clause-ready
returns-clause-ready c = λ _.
    other_ready c.args.self.now c.requires.ready c.args.sender c.requires.other c.in-Some.signal c.take_of.new.waiting c.in-Some.ensures
    (nil_from_length _ (sym c.own_count.ensures ∙ c.if-own_count-ne0.false)) c.arrive.new.process c.in_ok-arrive.ensures c.handle.new.self c.in_ok-handle.ensures.0

pub returns-clause-made : goal.returns-clause-made
returns-clause-made c =
    other_handled c.args.self.now c.requires.ready c.args.sender c.requires.other c.in-Some.signal c.take_of.new.waiting c.in-Some.ensures
    (nil_from_length _ (sym c.own_count.ensures ∙ c.if-own_count-ne0.false)) c.arrive.new.process c.in_ok-arrive.ensures c.handle.new.self c.in_ok-handle.ensures.0
