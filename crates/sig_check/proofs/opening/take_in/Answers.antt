use Rattle.std.proofs.Common.{ap, ◌∙◌}
use Rattle.sig_process.specs.Standing.{Standing}
use Rattle.sig_players.proofs.PlayerLemmas.{took_one, first_arrives, left_arrive}
use Rattle.sig_check.proofs.opening.take_in.Goals as goal

pub arrive-requires : goal.arrive-requires
arrive-requires c = first_arrives c.loop-signal.process.running c.in-Some.signal c.loop-signal.signals.items c.pop_front.new.self.items c.in-Some.ensures.items c.loop-signal.invariant.arriving

pub loop-signal-preserved : goal.loop-signal-preserved
loop-signal-preserved c = record {
  rest = took_one c.loop-signal.process.running c.arrive.new.process.running c.in-Some.signal c.loop-signal.signals.items c.pop_front.new.self.items c.in-Some.ensures.items (ap (λ (z : Standing). z.running) c.in_ok-arrive.ensures)
      ∙ c.loop-signal.invariant.rest;
  arriving = left_arrive c.loop-signal.process.running c.arrive.new.process.running c.in-Some.signal c.loop-signal.signals.items c.pop_front.new.self.items c.in-Some.ensures.items (ap (λ (z : Standing). z.running) c.in_ok-arrive.ensures)
      c.loop-signal.invariant.arriving;
}
