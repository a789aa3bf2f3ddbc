-- A process that runs: its state and what it keeps beside.
use Rattle.std.specs.Prelude.{ℕ, List, [], ◌∷◌, ◌++◌, length, Bool, false, ◌&&◌, not, ◌==◌, nat_lt, Option, Some, None, is_none, if◌then◌else◌}
use Rattle.std.specs.List.{filter}
use Rattle.std.specs.Option.{option_map}
use Rattle.sig_kinds.specs.declared.signal.Signal.{Signal}
use Rattle.sig_program.specs.Scripts.{Declared}
use Rattle.sig_runs.specs.Rules.{Effect}
use Rattle.sig_model.specs.declared.event.Event.{Event}
use Rattle.sig_model.specs.declared.state.TheConstants.{LAST_STAMP}
use Rattle.sig_model.specs.ProcessState.{ProcessState, opening_state, is_cut}
use Rattle.sig_model.specs.Machine.{execution, execution_whole, handling_of}

pub record Running : Type 0 where
  pub pid : ℕ
  -- how many processes the script has, how many instructions each may execute, and this one's part of the script
  pub count : ℕ
  pub turns : ℕ
  pub proc : Declared
  pub state : ProcessState
  -- its events, and the signals that it handled, in their order
  pub events : List Event
  pub handled : List Signal
  -- the signals that wait for it, its own apart; and those that it sent to others and that were not fetched yet
  pub own : List Signal
  pub taken_in : List Signal
  pub outbox : List Signal

-- the process as the script opens it
abbrev pub opened : ℕ → ℕ → ℕ → Declared → Running
opened pid count turns p = record {
  pid = pid;
  count = count;
  turns = turns;
  proc = p;
  state = opening_state pid count;
  events = [];
  handled = [];
  own = [];
  taken_in = [];
  outbox = [];
}

-- of these signals, those to the process itself, and those to others
abbrev pub to_itself : ℕ → List Signal → List Signal
to_itself pid signals = filter (λ (x : Signal). x.to.0 == pid) signals

abbrev pub to_others : ℕ → List Signal → List Signal
to_others pid signals = filter (λ (x : Signal). not (x.to.0 == pid)) signals

-- After an event with this effect. A signal that the process sends waits with its own ones where it is to itself, and else in the
-- outbox.
abbrev pub advanced : Running → Effect ProcessState Signal Event → Running
advanced r e = record r {
  state = e.state;
  events = r.events ++ e.event ∷ [];
  own = r.own ++ to_itself r.pid e.sends;
  outbox = r.outbox ++ to_others r.pid e.sends;
}

-- it is neither ended nor cut, and has no own signal to handle
unfoldable pub can_exec : Running → Bool
can_exec r = is_none r.state.tables.end && not (is_cut r.turns r.state) && length r.own == 0

-- after its next instruction, where that may be executed
unfoldable pub exec_next : Running → Option Running
exec_next r = if can_exec r then option_map (advanced r) (execution r.pid r.proc r.state) else None

-- the same by a scan of all messages
unfoldable pub exec_next_whole : Running → Option Running
exec_next_whole r = if can_exec r then option_map (advanced r) (execution_whole r.pid r.proc r.state) else None

-- the signal that it handles next: the oldest own one, else the oldest that was taken in
abbrev pub next_of : List Signal → List Signal → Option Signal
next_of (x ∷ own) taken = Some x
next_of [] (x ∷ taken) = Some x
next_of [] [] = None

-- there is one, and its stamp is below 2^62
abbrev pub is_early : Option Signal → Bool
is_early None = false
is_early (Some x) = nat_lt x.stamp LAST_STAMP

unfoldable pub can_handle : Running → Bool
can_handle r = not (is_cut r.turns r.state) && is_early (next_of r.own r.taken_in)

-- after it has handled this signal, which waits no more
abbrev pub handled_one : Running → Signal → Running
handled_one r x = advanced (record r { handled = r.handled ++ x ∷ [] }) (handling_of r.pid r.state x)

abbrev pub handled_first : Running → List Signal → List Signal → Option Running
handled_first r (x ∷ own) taken = Some (handled_one (record r { own = own }) x)
handled_first r [] (x ∷ taken) = Some (handled_one (record r { taken_in = taken }) x)
handled_first r [] [] = None

-- after its next signal, where that may be handled
unfoldable pub handle_next : Running → Option Running
handle_next r = if can_handle r then handled_first r r.own r.taken_in else None
