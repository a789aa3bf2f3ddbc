-- What an execution answers, and what a handling leads to.
use Rattle.std.specs.Prelude.{◌≡◌, ◌≤◌, length, Some, None, is_some, if◌then◌else◌}
use Rattle.sig_model.specs.Executing.{IsWaiting}
use Rattle.sig_model.specs.Running.{exec_next, exec_next_whole, handle_next}
use Rattle.sig_process.specs.declared.executing.Exec.{Exec}
use Rattle.sig_process.specs.declared.executing.Exec.TheVariants.{Stepped, Waiting}
use Rattle.sig_process.specs.Standing.{Standing}

-- The instruction was executed, and no place is saved; or it is a receive that waits, and the place behind all messages is saved, not
-- before the one that was saved
-- (Erlang Reference Manual, Expressions, Receive).
abbrev pub IsExec : Standing → Standing → Exec → Type 0
IsExec before after Stepped = (exec_next before.running ≡ Some after.running) × (after.saved ≡ 0)
IsExec before after Waiting =
    IsWaiting before.running.proc before.running.state × (after.running ≡ before.running) × (after.saved ≡ length before.running.state.tables.inbox.messages)
    × (before.saved ≤ after.saved)

-- the same of the machine in which a receive looks at all messages
abbrev pub IsWholeExec : Standing → Standing → Exec → Type 0
IsWholeExec before after Stepped = exec_next_whole before.running ≡ Some after.running
IsWholeExec before after Waiting = exec_next_whole before.running ≡ None

-- The next signal was handled. The saved place stays, but at the end of the process (Processes, Receiving Signals).
abbrev pub IsHandled : Standing → Standing → Type 0
IsHandled before after = (handle_next before.running ≡ Some after.running) × (after.saved ≡ (if is_some after.running.state.tables.end then 0 else before.saved))
