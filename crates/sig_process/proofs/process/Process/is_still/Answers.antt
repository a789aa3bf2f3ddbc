use Rattle.std.proofs.Common.{ap, sym, ◌∙◌}
use Rattle.sig_model.specs.Running.{can_exec, exec_next}
use Rattle.sig_model.proofs.Guards.{exec_refused}
use Rattle.sig_model.proofs.SkipLemmas.{waits_next}
use Rattle.sig_process.specs.Standing.{Standing}
use Rattle.sig_process.proofs.process.Process.is_still.Goals as goal

pub has_looked-requires-clause-place : goal.has_looked-requires-clause-place
has_looked-requires-clause-place c = c.self.invariant.keeps.bounds.first

pub has_looked-requires-clause-saved : goal.has_looked-requires-clause-saved
has_looked-requires-clause-saved c = c.self.invariant.saved

pub returns-then-not-can_exec-clause-still : goal.returns-then-not-can_exec-clause-still
returns-then-not-can_exec-clause-still c = λ _. exec_refused c.args.self.now.running (sym c.can_exec.ensures ∙ c.if-not-can_exec.true)

pub returns-clause-still : goal.returns-clause-still
returns-clause-still c = λ looked.
    ap (λ (p : Standing). exec_next p.running) (sym c.self.view_is)
    ∙ waits_next _ (ap (λ (p : Standing). can_exec p.running) c.self.view_is ∙ sym c.can_exec.ensures ∙ c.if-not-can_exec.false) (c.has_looked.ensures.waits looked)
