use Rattle.std.proofs.Common.{◌≡◌, ◌≤◌, ◌+◌, ◌++◌}
use Rattle.std.specs.Prelude.{vec_len, vec_capacity}
use Rattle.sig_queue.specs.Tables.{buffers}
use Rattle.sig_queue.proofs.open.add_buffers.Given as goal

abbrev pub invariant-loop : goal.invariant-loop
invariant-loop l = record {
  items : l.slots.items ≡ l.initial.slots.items ++ buffers l.counter;
  room : vec_len l.slots + 64 ≤ vec_capacity l.slots + l.counter;
}
