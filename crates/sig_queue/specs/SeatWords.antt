-- Words of clauses on a seat and the words of a queue.
use Rattle.std.specs.Prelude.{◌≡◌, ◌<◌, ℕ}
use Rattle.atomic_table.specs.Seated.{TableId}
use Rattle.atomic_table.specs.declared.Seat.{Seat}
use Rattle.sig_layout.specs.declared.layout.TheConstants.{BUFFERS, WORDS}
use Rattle.sig_layout.specs.declared.knows.Knows.{Knows}
use Rattle.sig_layout.specs.declared.setup.Setup.{Setup}
use Rattle.sig_queue.specs.declared.slot.Slot.{Slot}
use Rattle.sig_queue.specs.declared.words.Words.{Words}

-- which table it is
abbrev pub table_of : Words → TableId
table_of words = words.table.shared.table_id

-- what its queue was opened with
abbrev pub key_of : Words → Setup
key_of words = words.table.shared.key

-- the seat is at this table, which has the words of a queue
abbrev pub IsOf : Seat Slot Knows → Words → Type 0
IsOf seat words = (seat.table_id ≡ table_of words) × ((table_of words).words ≡ WORDS)

-- and the buffer is one of its
abbrev pub IsBufferOf : Seat Slot Knows → Words → ℕ → Type 0
IsBufferOf seat words buffer = (seat.table_id ≡ table_of words) × ((table_of words).words ≡ WORDS) × (buffer < BUFFERS)

-- the same seat, at another time
abbrev pub IsSameSeat : Seat Slot Knows → Seat Slot Knows → Type 0
IsSameSeat new old = (new.table_id ≡ old.table_id) × (new.id ≡ old.id)
