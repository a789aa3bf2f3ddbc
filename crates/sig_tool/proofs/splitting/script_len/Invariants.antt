use Rattle.std.proofs.Common.{◌≡◌, ◌+◌, ◌-◌, ◌≤◌, drop, length}
use Rattle.sig_tool.specs.Split.{script_length}
use Rattle.sig_tool.proofs.splitting.script_len.Given as goal

-- the bytes before the record are those so far, and those that stand before it in the rest
abbrev pub invariant-loop-at : goal.invariant-loop-at
invariant-loop-at l = record { within : l.at ≤ length l.bytes + 1; counted : script_length l.bytes ≡ l.at + script_length (drop l.at l.bytes) }

abbrev pub decreases-loop-at : goal.decreases-loop-at
decreases-loop-at l = length l.bytes + 1 - l.at
