use Rattle.std.proofs.Common.{◌≡◌, Option, Some, subst}
use Rattle.sig_program.specs.declared.instruction.Instr.{Instr}
use Rattle.sig_model.specs.Executing.{from_mark, exec_body}
use Rattle.sig_process.specs.Plans.{executed_body}
use Rattle.sig_process.specs.Progressing.{state_of}
use Rattle.sig_process.proofs.DueLemmas.{instr_committable, serials_left}
use Rattle.sig_process.proofs.ReceiveLemmas.{performed}
use Rattle.sig_process.proofs.progress.Progress.perform.Goals as goal

pub commit_exec-requires-clause-committable : goal.commit_exec-requires-clause-committable
commit_exec-requires-clause-committable c =
    let p = c.args.self.now in
    instr_committable c.args.proc.now p c.in-Ok.plan c.requires.due
    (subst (λ (o : Option Instr). exec_body from_mark c.args.proc.now (state_of p) o ≡ Some (executed_body (state_of p) c.in-Ok.plan)) c.requires.instr c.in-Ok.ensures)

pub returns-in-Ok : goal.returns-in-Ok
returns-in-Ok c =
    let p = c.args.self.now in
    performed c.commit_exec.result c.args.pid.0 c.args.proc.now p c.commit_exec.new.self (executed_body (state_of p) c.in-Ok.plan)
    (subst (λ (o : Option Instr). exec_body from_mark c.args.proc.now (state_of p) o ≡ Some (executed_body (state_of p) c.in-Ok.plan)) c.requires.instr c.in-Ok.ensures)
    c.commit_exec.ensures.event c.commit_exec.ensures.unsaved

pub commit_exec-requires-clause-serials : goal.commit_exec-requires-clause-serials
commit_exec-requires-clause-serials c = serials_left c.args.proc.now c.args.self.now c.requires.due.bounds c.requires.due.stamp
