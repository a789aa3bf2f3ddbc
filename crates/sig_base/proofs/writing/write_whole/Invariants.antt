use Rattle.std.proofs.Common.{length, ◌-◌, ◌≤◌, take, ◌≡◌, []}
use Rattle.sig_base.specs.Flow.{Adds}
use Rattle.sig_base.proofs.writing.write_whole.Given as goal

-- what was written so far is the front of the bytes, and with no bytes nothing was
abbrev pub invariant-loop-at : goal.invariant-loop-at
invariant-loop-at g l =
    let held = g.O.Sink.held in
    let faults = g.O.Sink.faults in
    record {
      within : l.at ≤ length l.bytes;
      added : Adds (held l.fn.sink) (held l.sink) (take l.at l.bytes);
      count : faults l.sink ≡ faults l.fn.sink;
      empty : l.bytes ≡ [] → l.sink ≡ l.fn.sink;
    }

abbrev pub decreases-loop-at : goal.decreases-loop-at
decreases-loop-at g l = length l.bytes - l.at
