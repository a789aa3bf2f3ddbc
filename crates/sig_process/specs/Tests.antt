-- How many tests of a message by a clause an execution makes (this project's own).
use Rattle.std.specs.Prelude.{ℕ, ◌-◌, ◌*◌, length, drop, slice_get, Option, Some}
use Rattle.sig_patterns.specs.Inbox.{terms_of}
use Rattle.sig_patterns.specs.Scanning.{scan, looked}
use Rattle.sig_program.specs.declared.instruction.Instr.{Instr}
use Rattle.sig_program.specs.declared.instruction.Instr.TheVariants as instr
use Rattle.sig_model.specs.ProcessState.{ProcessState}
use Rattle.sig_model.specs.Executing.{marked_start}
use Rattle.sig_process.specs.Standing.{Standing}

-- a receive makes at most as many as it has clauses, for each message from its mark's start on up to the one that it takes, but for
-- those before its saved place; another instruction makes none
abbrev pub tests_of : ProcessState → ℕ → Option Instr → ℕ
tests_of s saved (Some (instr.Receive r)) =
    let start = marked_start s r.using in
    let messages = drop start (terms_of s.tables.inbox.messages) in
    length r.clauses * (looked messages (scan r.clauses s.tables.env messages) - (saved - start))
tests_of s saved _ = 0

-- the instruction at the process's place
abbrev pub most_tests : Standing → ℕ
most_tests p = tests_of p.running.state p.saved (slice_get p.running.proc.instrs (p.running.state.counts.place - 1))
