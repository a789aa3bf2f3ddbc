-- A worker's part may go to another thread: each type that it has in it may.
use denote.Param.Send.{IsSend, IsSync, sendable, shr_slice_sync}
use denote.Slice.{ShrSlice}
use base.Shift.{Keyless}
use Rattle.std.proofs.Common.{ℕ}
use mir.Syntax.{Lifetime}
use base.Fml.{Lft}
use Rattle.std.proofs.Crossing.{crosses}
use Rattle.std.proofs.MapsCrossing as maps
use Rattle.sig_terms.proofs.term.Term.TheLaws.TheKnot as term_knot
use Rattle.sig_patterns.proofs.expression.Expr.TheLaws.TheKnot as expr_knot
use Rattle.sig_patterns.proofs.pattern.Pattern.TheLaws.TheKnot as pattern_knot
use Rattle.sig_terms.specs.contracts.term.Term as term
use Rattle.sig_terms.specs.contracts.name.Name as name
use Rattle.sig_kinds.specs.contracts.signal.Signal as signal
use Rattle.sig_kinds.specs.contracts.signals.Signals as signals
use Rattle.sig_links.specs.contracts.links.Links as links
use Rattle.sig_inner.specs.contracts.inner.Inner as inner
use Rattle.sig_patterns.specs.contracts.env.Env as env
use Rattle.sig_patterns.specs.contracts.guard.Test as test
use Rattle.sig_patterns.specs.contracts.guard.Guard as guard
use Rattle.sig_patterns.specs.contracts.clause.Clause as clause
use Rattle.sig_program.specs.contracts.process.Proc as proc
use Rattle.sig_program.specs.contracts.instruction.Instr as instr
use Rattle.sig_model.specs.contracts.event.Event as event
use Rattle.sig_process.specs.contracts.process.Process as process
use Rattle.sig_queue.proofs.Sendable.{seat_send, queue_sync}
use Rattle.sig_queue.specs.contracts.sig_queue.SigQueue as queue
use Rattle.sig_workers.specs.contracts.bells.Bells as bells
use Rattle.sig_workers.specs.contracts.part.Part as part
use Rattle.sig_workers.specs.contracts.part.Worked as worked

term_send : IsSend term.the_row
term_send = search (term_knot.send-Term, crosses, maps.crosses, sendable) depth 40

signal_send : IsSend signal.the_row
signal_send = search (term_knot.send-Term, crosses, maps.crosses, sendable) depth 60 fits 20000

signals_send : IsSend signals.the_row
signals_send = search (signal_send, crosses, maps.crosses, sendable) depth 40

links_send : IsSend links.the_row
links_send = search (crosses, maps.crosses, sendable) depth 40

event_send : IsSend event.the_row
event_send = search (term_knot.send-Term, crosses, maps.crosses, sendable) depth 60 fits 20000

inner_send : IsSend inner.the_row
inner_send = search (term_send, crosses, maps.crosses, sendable) depth 40

env_send : IsSend env.the_row
env_send = search (term_send, crosses, maps.crosses, sendable) depth 40

name_send : IsSend name.the_row
name_send = search (crosses, sendable) depth 40

test_send : IsSend test.the_row
test_send = search (name_send, crosses, sendable) depth 60 fits 20000

guard_send : IsSend guard.the_row
guard_send = search (test_send, crosses, sendable) depth 60 fits 20000

clause_send : IsSend clause.the_row
clause_send = search (name_send, guard_send, pattern_knot.send-Pattern, crosses, sendable) depth 60 fits 20000

instr_send : IsSend instr.the_row
instr_send = search (name_send, clause_send, expr_knot.send-Expr, pattern_knot.send-Pattern, crosses, sendable) depth 60 fits 200000 steps 20000000

proc_send : IsSend proc.the_row
proc_send = search (instr_send, crosses, maps.crosses, sendable) depth 40

process_send : IsSend process.the_row
process_send = search (proc_send, env_send, inner_send, event_send, links_send, signals_send, term_send, term_knot.send-Term, crosses, maps.crosses, sendable) depth 60 fits 40000

pub part_send : IsSend part.the_row
part_send = search (process_send, seat_send, crosses, maps.crosses, sendable) depth 60 fits 20000

pub worked_send : IsSend worked.the_row
worked_send = search (process_send, seat_send, crosses, maps.crosses, sendable) depth 60 fits 20000

-- bells may be shared
pub bells_sync : IsSync bells.the_row
bells_sync = search (crosses, sendable) depth 40

-- a list of queues may be shared
pub queues_sync : (ℓ : Lifetime) (κ : Lft) → IsSync (ShrSlice ℓ κ queue.the_row)
queues_sync ℓ κ = shr_slice_sync ℓ κ queue.the_row queue_sync

pub queues_shared : (ℓ : Lifetime) (κ : Lft) (x : (ShrSlice ℓ κ queue.the_row).Denot) (b o : ℕ) (ν : Lft) → Keyless ((ShrSlice ℓ κ queue.the_row).shr_at x b o ν)
queues_shared ℓ κ x b o ν = (queues_sync ℓ κ).shared x b o ν
