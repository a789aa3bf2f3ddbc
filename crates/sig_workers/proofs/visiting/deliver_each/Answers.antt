use Rattle.std.proofs.Common.{◌≡◌, ◌∙◌, length, arith}
use Rattle.std.proofs.lemmas.Grind.{common_steps}
use Rattle.sig_process.specs.Standing.{runnings_of}
use Rattle.sig_workers.proofs.PlaceLemmas.{first_arriving, left_arriving, delivered_rest}
use Rattle.sig_workers.proofs.visiting.deliver_each.Goals as goal

pub deliver_one-requires-clause-arriving : goal.deliver_one-requires-clause-arriving
deliver_one-requires-clause-arriving c =
    first_arriving (length c.loop-signal.procs.items) c.in-Some.signal c.loop-signal.signals.items c.pop_front.new.self.items c.in-Some.ensures.items c.loop-signal.invariant.arriving

pub loop-signal-preserved : goal.loop-signal-preserved
loop-signal-preserved c =
    let same : length c.deliver_one.new.procs.items ≡ length c.loop-signal.procs.items = grind (arith, common_steps, c.in_ok-deliver_one.ensures.len) in
    record {
      rest =
          delivered_rest (runnings_of c.loop-signal.procs.items) (runnings_of c.deliver_one.new.procs.items) c.in-Some.signal c.loop-signal.signals.items c.pop_front.new.self.items
          c.in-Some.ensures.items c.in_ok-deliver_one.ensures.procs
          ∙ c.loop-signal.invariant.rest;
      placed = c.in_ok-deliver_one.ensures.placed;
      arriving = left_arriving (length c.loop-signal.procs.items) (length c.deliver_one.new.procs.items) c.in-Some.signal c.loop-signal.signals.items c.pop_front.new.self.items c.in-Some.ensures.items
          same c.loop-signal.invariant.arriving;
      len = c.in_ok-deliver_one.ensures.len ∙ c.loop-signal.invariant.len;
    }
