use Rattle.std.proofs.Common.{◌≡◌, ◌+◌, ◌<◌, ◌≤◌, ◌++◌, [], ℕ, get_or, length}
use Rattle.sig_layout.specs.Rooms.{all_pieces}
use Rattle.sig_layout.proofs.pieces.Pieces.pour_into.Given as goal

abbrev pub invariant-loop-i : goal.invariant-loop-i
invariant-loop-i l = record {
  moved : l.into.items ++ all_pieces l.self-inside.first.items ≡ l.initial.into.items ++ all_pieces l.initial.self-inside.first.items;
  room : length (all_pieces l.self-inside.first.items) + length l.self-inside.last ≤ l.into.spare;
  spare : l.initial.into.spare + length (all_pieces l.self-inside.first.items) ≤ l.into.spare + length (all_pieces l.initial.self-inside.first.items);
  last : l.self-inside.last ≡ l.initial.self-inside.last;
  size : length l.self-inside.first.items ≡ length l.initial.self-inside.first.items;
  poured : (k : ℕ) → k < l.i → get_or l.self-inside.first.items k [] ≡ [];
}
