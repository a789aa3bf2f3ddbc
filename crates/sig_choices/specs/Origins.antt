-- Which event sent each signal of a run (Erlang Reference Manual, Processes, Signals and Delivery of Signals). That the signals of a pair
-- and the events of a process are numbered is this project's own.
use Rattle.std.specs.Prelude.{◌≡◌, ℕ, ◌+◌, List, [], ◌∷◌, ◌++◌, map, length, All, Option, Some, None, slice_get, slice_index}
use Rattle.std.specs.List.{range_with_len}
use Rattle.sig_kinds.specs.declared.signal.Signal.{Signal}
use Rattle.sig_kinds.specs.Counting.{IsCounting}
use Rattle.sig_program.specs.Scripts.{Program}
use Rattle.sig_runs.specs.Rules.{Effect, Rules}
use Rattle.sig_runs.specs.Machine.{Machine, Choice, At, apply, choice}
use Rattle.sig_runs.specs.Machine.Choice.{Executes, Handles}
use Rattle.sig_runs.specs.Crew.{opening_machine}
use Rattle.sig_runs.specs.Order.{events_by}
use Rattle.sig_model.specs.declared.event.Event.{Event}
use Rattle.sig_model.specs.declared.origin.Origin.{Origin}
use Rattle.sig_model.specs.ProcessState.{ProcessState}
use Rattle.sig_model.specs.Machine.{acted_at, rules_of, opening_of}
use Rattle.sig_model.specs.Running.{Running, to_itself, to_others}

-- what is sent by an execution, where one is defined
abbrev pub sent_in : Option (Effect ProcessState Signal Event) → List Signal
sent_in None = []
sent_in (Some effect) = effect.sends

-- what the process p, if it is there, sends when it executes, and when it handles the first of these signals
abbrev pub executing_sends : Rules ProcessState Signal Event → ℕ → Option ProcessState → List Signal
executing_sends rules p None = []
executing_sends rules p (Some s) = sent_in (rules.exec p s)

abbrev pub handling_sends : Rules ProcessState Signal Event → ℕ → Option ProcessState → List Signal → List Signal
handling_sends rules p None xs = []
handling_sends rules p (Some s) [] = []
handling_sends rules p (Some s) (x ∷ xs) = (rules.handle p s x).sends

-- the signals that are sent by a choice that is possible at the machine m
abbrev pub sent_at : Rules ProcessState Signal Event → Machine ProcessState Signal → Choice → List Signal
sent_at rules m (Executes p) = executing_sends rules p (slice_get m.procs p)
sent_at rules m (Handles p s) = handling_sends rules p (slice_get m.procs p) (m.queued s p)

-- its sender's event with this number sent the signal
abbrev pub origin_of : ℕ → Signal → Origin
origin_of event x = record { from = x.from; to = x.to; number = x.number; event = event }

-- The origins of the signals that one event of the process p sent, in the order in which it sent them; those to itself stand before
-- those to others.
abbrev pub origins_in : ℕ → ℕ → List Signal → List Origin
origins_in p event sends = map (origin_of event) (to_itself p sends ++ to_others p sends)

-- The origins of the signals that are sent when the choices of these events are made one after another, from the machine m on, at which
-- the events before them have led: each signal that an event sent, with how many events its process has had with it. Of the events only
-- the choices are read; nothing comes after one that isn't possible.
abbrev pub origins_after : Rules ProcessState Signal Event → List (At Event) → Machine ProcessState Signal → List (At Event) → List Origin
origins_after rules before m [] = []
origins_after rules before m (a ∷ later) =
    elim (apply rules m (choice a.pid (acted_at a.event.did))) [
      | None ↦ []
      | Some next ↦ origins_in a.pid (length (events_by a.pid before) + 1) (sent_at rules m (choice a.pid (acted_at a.event.did))) ++ origins_after rules (before ++ a ∷ []) next.machine later
    ]

-- the origins of a run of the script, from its opening on: for each signal the event that sent it
abbrev pub origins_of : Program → List (At Event) → List Origin
origins_of script events = origins_after (rules_of script) [] (opening_machine (opening_of script)) events

-- The process, which was r, has sent these signals by one event: those to others lie in its outbox, and those to itself have the next
-- numbers.
pub record HasSent (r t : Running) (sends : List Signal) : Type 0 where
  pub from : All (λ (x : Signal). x.from.0 ≡ r.pid) sends
  pub outbox : t.outbox ≡ r.outbox ++ to_others r.pid sends
  pub own : IsCounting (slice_index r.state.counts.next_numbers r.pid) (to_itself r.pid sends)
  pub next : slice_index t.state.counts.next_numbers r.pid ≡ slice_index r.state.counts.next_numbers r.pid + length (to_itself r.pid sends)
  pub events : length t.events ≡ length r.events + 1

-- the origins of n signals of the process p to itself, with the numbers from `first` on
abbrev pub own_origins : ℕ → ℕ → ℕ → ℕ → List Origin
own_origins p event first n = map (λ number. record { from = record { 0 = p }; to = record { 0 = p }; number = number; event = event }) (range_with_len first n)
