-- What a record tells of a process.
use Rattle.std.specs.Prelude.{◌≡◌}
use Rattle.sig_inner.specs.InnerQueue.{InnerQueue}
use Rattle.sig_inner.specs.declared.last_scan.LastScan.TheVariants as last
use Rattle.sig_model.specs.Running.{Running}
use Rattle.sig_model.specs.PrintedState.{printed_state}
use Rattle.sig_process.specs.declared.parts.Parts.{Parts}

-- the messages that are left, with nothing of a scan
abbrev pub queue_of : Running → InnerQueue
queue_of r = record { owner = r.pid; inbox = r.state.tables.inbox; last = last.Gone }

-- they are those of this process
pub record IsPartsOf (r : Running) (parts : Parts) : Type 0 where
  pub pid : parts.pid.0 ≡ r.pid
  pub name : parts.name ≡ r.proc.name
  pub events : parts.events ≡ r.events
  pub left : parts.left.queue ≡ queue_of r
  pub own : parts.own.items ≡ r.own
  pub taken_in : parts.taken_in.items ≡ r.taken_in
  pub state : parts.state ≡ printed_state r
  -- of its part of the script
  pub labels : parts.labels ≡ r.proc.labels
  pub instrs : parts.instrs ≡ r.proc.instrs
