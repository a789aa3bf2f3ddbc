-- A process that has nothing to do. (Erlang Reference Manual, Expressions, Receive; Processes, Process Termination.)
use Rattle.std.specs.Prelude.{◌≡◌, ◌==◌, ◌-◌, ◌&&◌, ◌||◌, not, nat_le, length, slice_get, [], is_none, Bool, false, Option, Some, None}
use Rattle.sig_program.specs.declared.instruction.Instr.{Instr}
use Rattle.sig_program.specs.declared.instruction.Instr.TheVariants as instr
use Rattle.sig_model.specs.Running.{Running, can_exec, exec_next}
use Rattle.sig_process.specs.Standing.{Standing}

-- the instruction is a receive without `after`
abbrev pub is_bare_receive : Option Instr → Bool
is_bare_receive (Some (instr.Receive r)) = is_none r.after
is_bare_receive _ = false

-- no signal waits for the process or lies in its outbox, and it can't go on by itself
pub record IsIdle (r : Running) : Type 0 where
  pub own : r.own ≡ []
  pub taken_in : r.taken_in ≡ []
  pub outbox : r.outbox ≡ []
  pub still : exec_next r ≡ None

-- its next instruction is a receive without `after`, whose saved place lies behind all messages
abbrev pub has_looked : Standing → Bool
has_looked p =
    nat_le (length p.running.state.tables.inbox.messages) p.saved
    && is_bare_receive (slice_get p.running.proc.instrs (p.running.state.counts.place - 1))

-- what can be seen without a search: that it is idle, where a receive that waits has looked at all messages
abbrev pub is_seen_idle : Standing → Bool
is_seen_idle p =
    length p.running.own == 0 && length p.running.taken_in == 0 && length p.running.outbox == 0
    && (not (can_exec p.running) || has_looked p)
