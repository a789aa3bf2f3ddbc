-- What is looked up of a record, a script and origins (this project's own).
use Rattle.std.specs.Prelude.{ℕ, ◌+◌, ◌-◌, ◌==◌, ◌&&◌, not, Bool, List, [], ◌∷◌, Option, None, Some, slice_get, if◌then◌else◌}
use Rattle.sig_program.specs.declared.instruction.Instr.{Instr}
use Rattle.sig_program.specs.Scripts.{Program, Declared}
use Rattle.sig_model.specs.declared.event.Did.{Did}
use Rattle.sig_model.specs.declared.event.Did.TheVariants.{Exec, From}
use Rattle.sig_model.specs.declared.event.Event.{Event}
use Rattle.sig_model.specs.declared.origin.Origin.{Origin}
use Rattle.sig_record.specs.declared.report.Report.{Report}
use Rattle.sig_record.specs.declared.merging.MergedAt.{MergedAt}
use Rattle.sig_record.specs.Merging.{event_at}

-- the event of a process with this number, from 1, if there is one
abbrev pub event_of : List Report → ℕ → ℕ → Option Event
event_of reports pid event = if event == 0 then None else event_at reports (record { pid = record { 0 = pid }; place = event - 1 })

-- the instructions of a process, none where there is no process
abbrev pub instrs_in : Option Declared → List Instr
instrs_in None = []
instrs_in (Some p) = p.instrs

-- the instruction that was executed, where the script has one at that place
abbrev pub instr_at : Program → ℕ → Did → Option Instr
instr_at script pid (Exec place) = slice_get (instrs_in (slice_get script.procs pid)) (place - 1)
instr_at script pid (From sender number) = None

-- the origin is that of this signal
abbrev pub is_of : Origin → ℕ → ℕ → ℕ → Bool
is_of o from to number = o.from.0 == from && o.to.0 == to && o.number == number

-- the number of the event that sent this signal, by the first origin that is that of the signal: 0 where none is
abbrev pub sent_by : List Origin → ℕ → ℕ → ℕ → ℕ
sent_by [] from to number = 0
sent_by (o ∷ os) from to number = if is_of o from to number then o.event else sent_by os from to number

-- it is the event of this process with that number, from 1
abbrev pub is_event : ℕ → ℕ → MergedAt → Bool
is_event pid event m = m.pid.0 == pid && not (event == 0) && m.place == event - 1

-- the row of that event among these, the first of which has this row
abbrev pub row_of : ℕ → List MergedAt → ℕ → ℕ → Option ℕ
row_of row [] pid event = None
row_of row (m ∷ ms) pid event = if is_event pid event m then Some row else row_of (row + 1) ms pid event
