-- The machine of a script, as rules: what an execution and a handling of each of its processes are.
use Rattle.std.specs.Prelude.{ℕ, ◌+◌, List, [], ◌∷◌, length, Option, Some, None, is_some, slice_get}
use Rattle.std.specs.Option.{option_map}
use Rattle.sig_kinds.specs.declared.signal.Signal.{Signal}
use Rattle.sig_program.specs.Scripts.{Declared}
use Rattle.sig_program.specs.Scripts.{Program}
use Rattle.sig_runs.specs.Rules.{Effect, Rules}
use Rattle.sig_runs.specs.Rules.{Did as Acted}
use Rattle.sig_runs.specs.Rules.Did.{Exec as Executed, From as Handled}
use Rattle.sig_model.specs.declared.event.Event.{Event}
use Rattle.sig_model.specs.declared.event.Did.{Did}
use Rattle.sig_model.specs.declared.event.Did.TheVariants.{Exec, From}
use Rattle.sig_model.specs.ProcessState.{ProcessState, opening_state, is_cut}
use Rattle.sig_model.specs.Executing.{executing, executing_whole}
use Rattle.sig_model.specs.Handling.{handling}
use Rattle.sig_model.specs.Finishing.{finished_exec, finished_handle}

-- what the process pid, of this declaration, does with its next instruction, where it can be executed
abbrev pub execution : ℕ → Declared → ProcessState → Option (Effect ProcessState Signal Event)
execution pid p s = option_map (finished_exec pid s) (executing p s)

-- the same by a scan of all messages
abbrev pub execution_whole : ℕ → Declared → ProcessState → Option (Effect ProcessState Signal Event)
execution_whole pid p s = option_map (finished_exec pid s) (executing_whole p s)

abbrev pub execution_of : ℕ → Option Declared → ProcessState → Option (Effect ProcessState Signal Event)
execution_of pid None s = None
execution_of pid (Some p) s = execution pid p s

-- what the process pid does with this signal
abbrev pub handling_of : ℕ → ProcessState → Signal → Effect ProcessState Signal Event
handling_of pid s signal = finished_handle pid s signal (handling pid s signal)

-- what an event tells that the process did
abbrev pub acted_at : Did → Acted
acted_at (Exec place) = Executed
acted_at (From sender number) = Handled sender.0

-- the rules of processes that have these parts of a script, and may each execute so many instructions
unfoldable pub rules_with : ℕ → (ℕ → Option Declared) → Rules ProcessState Signal Event
rules_with turns part = record {
  from = λ x. x.from.0;
  to = λ x. x.to.0;
  stamp = λ x. x.stamp;
  event_stamp = λ e. e.stamp;
  did = λ e. acted_at e.did;
  last = λ s. s.counts.stamp;
  is_ended = λ s. is_some s.tables.end;
  is_cut = λ s. is_cut turns s;
  exec = λ pid s. execution_of pid (part pid) s;
  handle = λ pid s x. handling_of pid s x;
}

abbrev pub rules_of : Program → Rules ProcessState Signal Event
rules_of script = rules_with script.turns (slice_get script.procs)

-- the opening states of these processes of so many, the first of which has this pid
abbrev pub opening_from : ℕ → ℕ → List Declared → List ProcessState
opening_from pid count [] = []
opening_from pid count (p ∷ ps) = opening_state pid count ∷ opening_from (pid + 1) count ps

-- the opening of a script: each process in its opening state
abbrev pub opening_of : Program → List ProcessState
opening_of script = opening_from 0 (length script.procs) script.procs
