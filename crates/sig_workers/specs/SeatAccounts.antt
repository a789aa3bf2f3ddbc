-- What seats put and took for the processes of a round.
use Rattle.std.specs.Prelude.{ℕ, List, [], Option, None, Some, slice_get}
use Rattle.sig_kinds.specs.declared.signal.Signal.{Signal}
use Rattle.sig_model.specs.Accounts.{coming_from}
use Rattle.sig_layout.specs.Sent.{signals}
use Rattle.sig_queue.specs.Seats.{Seated}

abbrev pub put_in : ℕ → Option Seated → List Signal
put_in s None = []
put_in s (Some v) = coming_from s (signals v.knows.put)

abbrev pub taken_in : Option Seated → List Signal
taken_in None = []
taken_in (Some v) = v.knows.taken

-- what was put for s at the seat of queue p, and what was taken there
abbrev pub put_by : ℕ → ℕ → List Seated → List Signal
put_by s p seats = put_in s (slice_get seats p)

abbrev pub taken_at : ℕ → List Seated → List Signal
taken_at p seats = taken_in (slice_get seats p)
