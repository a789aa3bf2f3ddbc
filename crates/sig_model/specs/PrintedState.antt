-- How a process stands at the end of a run (this project's own).
use Rattle.std.specs.Prelude.{Bool, true, false, ◌&&◌, ◌||◌, not, nat_le, Option, Some, None, is_none}
use Rattle.std.specs.List.{list_any}
use Rattle.sig_terms.specs.declared.term.Term.{Term}
use Rattle.sig_kinds.specs.declared.signal.Signal.{Signal}
use Rattle.sig_model.specs.declared.state.State.{State}
use Rattle.sig_model.specs.declared.state.State.TheVariants.{Ended, Waiting, Cut}
use Rattle.sig_model.specs.declared.state.TheConstants.{LAST_STAMP}
use Rattle.sig_model.specs.ProcessState.{is_cut}
use Rattle.sig_model.specs.Running.{Running}

-- a signal that isn't handled, since its stamp is at least 2^62
abbrev pub is_late_signal : Signal → Bool
is_late_signal signal = nat_le LAST_STAMP signal.stamp

-- such a signal waits for the process
abbrev pub is_late : Running → Bool
is_late r = list_any is_late_signal r.own || list_any is_late_signal r.taken_in

abbrev pub state_of : Option Term → Bool → State
state_of (Some reason) cut = Ended reason
state_of None true = Cut
state_of None false = Waiting

-- ended where it has ended, else cut where it is cut or late, else waiting
abbrev pub printed_state : Running → State
printed_state r = state_of r.state.tables.end (is_cut r.turns r.state || is_late r)

-- it waits: it is neither ended, nor cut, nor late
abbrev pub is_waiting : Running → Bool
is_waiting r = is_none r.state.tables.end && not (is_cut r.turns r.state || is_late r)
