use Rattle.std.proofs.Common.{◌≡◌, ◌<◌, ◌≤◌, ◌+◌, ℕ, get_or, false, true}
use Rattle.std.specs.Prelude.{vec_capacity}
use Rattle.sig_queue.specs.Tables.{lists_in}
use Rattle.sig_queue.proofs.close.take_lists.Given as goal

abbrev pub invariant-loop-buffer : goal.invariant-loop-buffer
invariant-loop-buffer l = record {
  items : l.closed.slots.items ≡ l.initial.closed.slots.items;
  size : l.closed.slots.len ≡ l.initial.closed.slots.len;
  first : get_or l.closed.slots.filled 0 false ≡ true;
  empty : (k : ℕ) → 0 < k → k < l.buffer + 1 → get_or l.closed.slots.filled k false ≡ false;
  left : (k : ℕ) → l.buffer < k → k < 65 → get_or l.closed.slots.filled k false ≡ true;
  lists : l.lists.items ≡ lists_in l.initial.closed.slots.items 1 l.buffer;
  room : 64 ≤ vec_capacity l.lists;
}
