-- Stamps and numbers. Stamps are Lamport's logical clocks: that of an execution is the process's last stamp plus 1, that of a
-- handling 1 plus the greater of the last stamp and the signal's, and a signal has the stamp of the event that sends it. It has
-- the next number for its receiver too. That signals of one pair keep their order is of the manual (Processes, Delivery of
-- Signals); that they are numbered is this project's own.
use Rattle.std.specs.Prelude.{ℕ, ◌+◌, max, List, [], ◌∷◌, slice_index, slice_set}
use Rattle.sig_kinds.specs.declared.signal.Signal.{Signal}
use Rattle.sig_runs.specs.Rules.{Effect}
use Rattle.sig_model.specs.declared.event.Event.{Event}
use Rattle.sig_model.specs.declared.event.Did.{Did}
use Rattle.sig_model.specs.declared.event.Did.TheVariants as did
use Rattle.sig_model.specs.ProcessState.{ProcessState, Post}
use Rattle.sig_model.specs.Bodies.{Body}

-- the next numbers, after one was drawn for this peer
abbrev pub drawn : List ℕ → ℕ → List ℕ
drawn numbers peer = slice_set numbers peer (slice_index numbers peer + 1)

-- the next numbers, after all signals were numbered
abbrev pub numbers_after : List ℕ → List Post → List ℕ
numbers_after numbers [] = numbers
numbers_after numbers (p ∷ ps) = numbers_after (drawn numbers p.to) ps

-- the signals of the process pid with this stamp, each with the next number for its receiver
abbrev pub numbered : ℕ → ℕ → List ℕ → List Post → List Signal
numbered pid stamp numbers [] = []
numbered pid stamp numbers (p ∷ ps) =
    record { from = record { 0 = pid }; to = record { 0 = p.to }; number = slice_index numbers p.to; stamp = stamp; kind = p.kind }
    ∷ numbered pid stamp (drawn numbers p.to) ps

-- the event of the process pid, with its stamp, the new state and the signals
abbrev pub finished : ℕ → ProcessState → ℕ → ℕ → Did → Body → Effect ProcessState Signal Event
finished pid s executed stamp what body = record {
  state = record body.state {
    counts = record body.state.counts { next_numbers = numbers_after s.counts.next_numbers body.posts; executed = executed; stamp = stamp };
  };
  event = record { stamp = stamp; did = what; outcome = body.outcome };
  sends = numbered pid stamp s.counts.next_numbers body.posts;
}

-- an execution
abbrev pub finished_exec : ℕ → ProcessState → Body → Effect ProcessState Signal Event
finished_exec pid s body = finished pid s (s.counts.executed + 1) (s.counts.stamp + 1) (did.Exec s.counts.place) body

-- the handling of a signal
abbrev pub finished_handle : ℕ → ProcessState → Signal → Body → Effect ProcessState Signal Event
finished_handle pid s signal body = finished pid s s.counts.executed (max s.counts.stamp signal.stamp + 1) (did.From signal.from signal.number) body
