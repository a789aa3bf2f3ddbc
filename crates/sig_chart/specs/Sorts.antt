-- Which kind of signal a handled one was. A record doesn't say it of handled signals; it is told by the event that sent the signal: by
-- what came of it, by its instruction, and where it told of an end by what came of the handling (docs/MACHINE.md has what each event
-- sends).
use Rattle.std.specs.Prelude.{ℕ, Option, None, Some, length, ◌==◌, if◌then◌else◌}
use Rattle.sig_terms.specs.declared.term.Term.{Term, out-Term}
use Rattle.sig_terms.specs.declared.term.Term.TheVariants as term
use Rattle.sig_terms.specs.declared.term.Term.TheOpen.{Term-F}
use Rattle.sig_terms.specs.declared.term.Term.TheOpen as layer
use Rattle.sig_kinds.specs.declared.signal.Kind.{Kind}
use Rattle.sig_kinds.specs.declared.signal.Kind.TheVariants as kind
use Rattle.sig_program.specs.declared.instruction.Instr.{Instr}
use Rattle.sig_program.specs.declared.instruction.Instr.TheVariants as instr
use Rattle.sig_program.specs.Scripts.{Program}
use Rattle.sig_model.specs.declared.event.Event.{Event}
use Rattle.sig_model.specs.declared.event.Outcome.{Outcome}
use Rattle.sig_model.specs.declared.event.Outcome.TheVariants as outcome
use Rattle.sig_svg.specs.declared.sort.Sort.{Sort}
use Rattle.sig_svg.specs.declared.sort.Sort.TheVariants as sort
use Rattle.sig_chart.specs.Finding.{instr_at}

abbrev pub sort_of_kind : Kind → Sort
sort_of_kind (kind.Message m) = sort.Message
sort_of_kind (kind.AliasMessage r m) = sort.Alias
sort_of_kind kind.Link = sort.Link
sort_of_kind (kind.Unlink id) = sort.Unlink
sort_of_kind (kind.UnlinkAck id) = sort.Ack
sort_of_kind (kind.Monitor r) = sort.Monitor
sort_of_kind (kind.Demonitor r) = sort.Demonitor
sort_of_kind (kind.Exit reason linked) = sort.Exit
sort_of_kind (kind.Down r reason) = sort.Down

-- a message to this target: through an alias where it is a reference (Expressions, Send)
abbrev pub sort_of_target : Term → Sort
sort_of_target (term.Ref r) = sort.Alias
sort_of_target _ = sort.Message

-- what an instruction without a result sends: else it is a `demonitor`
abbrev pub sort_of_done : Option Instr → Sort
sort_of_done (Some (instr.Link peer)) = sort.Link
sort_of_done (Some (instr.Unlink peer)) = sort.Unlink
sort_of_done (Some (instr.ExitTo target reason)) = sort.Exit
sort_of_done _ = sort.Demonitor

-- A signal that told of an end, or that there is no such process: who handled an exit signal ended, or kept `{'EXIT',Pid,Reason}`; who
-- handled a down kept `{'DOWN',Ref,process,Pid,Reason}`, a tuple of five.
abbrev pub sort_by : Term-F Term → Sort
sort_by (layer.Tuple ts) = if length ts == 5 then sort.Down else sort.Exit
sort_by _ = sort.ExitOrDown

abbrev pub sort_of_kept : Term → Sort
sort_of_kept t = sort_by (out-Term t)

abbrev pub sort_of_end : Outcome → Sort
sort_of_end (outcome.Ended reason) = sort.Exit
sort_of_end (outcome.Kept message) = sort_of_kept message
sort_of_end _ = sort.ExitOrDown

-- What an event sent that came to the first outcome, where the handling came to the second. Of the instructions that set a variable a
-- `monitor` alone sends something, and of those that answer a `demonitor`; of the handlings that keep a message that of an alias which
-- ends a monitor.
abbrev pub sort_sent : Option Instr → Outcome → Outcome → Sort
sort_sent i (outcome.Sent to message) o = sort_of_target to
sort_sent i (outcome.Set value) o = sort.Monitor
sort_sent i (outcome.Answered truth) o = sort.Demonitor
sort_sent i outcome.Done o = sort_of_done i
sort_sent i (outcome.Kept message) o = sort.Demonitor
sort_sent i outcome.Unlinked o = sort.Ack
sort_sent i _ o = sort_of_end o

-- of a signal that this event of the process sent, if it is there
abbrev pub told_sort : Program → ℕ → Option Event → Outcome → Sort
told_sort script pid None o = sort.ExitOrDown
told_sort script pid (Some e) o = sort_sent (instr_at script pid e.did) e.outcome o
