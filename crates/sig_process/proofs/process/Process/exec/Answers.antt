use Rattle.std.proofs.Common.{◌<◌, ◌^◌, ap, ◌∙◌, subst, arith}
use Rattle.std.specs.Prelude.{IfOk}
use Rattle.sig_model.specs.Executing.{SkipsNone}
use Rattle.sig_model.specs.Running.{can_exec}
use Rattle.sig_process.specs.Progressing.{standing_of}
use Rattle.sig_process.specs.Standing.{Standing}
use Rattle.sig_process.specs.Steps.{IsWholeExec}
use Rattle.sig_process.proofs.SoundLemmas.{exec_is_due, whole_tells_so, exec_answer, exec_tells_so, exec_keeps_sound}
use Rattle.sig_process.proofs.process.Process.exec.Goals as goal

pub exec-requires : goal.exec-requires
exec-requires g c =
    let s = c.self.inside in
    let few : s.turns < 2 ^ 32 = omega arith in
    record { due = exec_is_due s.pid.0 s.count s.turns s.proc s.progress s.progress c.self.invariant few (ap (λ (p : Standing). can_exec p.running) c.self.view_is ∙ c.requires) }

pub invariant_of-self : goal.invariant_of-self
invariant_of-self g c =
    let s = c.self.inside in
    exec_keeps_sound s.pid.0 s.count s.turns s.proc s.progress c.exec.new.self c.exec.result c.self.invariant (ap (λ (p : Standing). can_exec p.running) c.self.view_is ∙ c.requires)
    c.exec.ensures.gone c.exec.ensures.saved

pub returns-clause-exec : goal.returns-clause-exec
returns-clause-exec g c =
    let s = c.self.inside in
    subst (λ (p : Standing). exec_answer s.pid.0 s.count s.turns s.proc c.exec.result p c.exec.new.self) c.self.view_is
    (exec_tells_so s.pid.0 s.count s.turns s.proc s.progress c.exec.new.self c.exec.result (ap (λ (p : Standing). can_exec p.running) c.self.view_is ∙ c.requires) c.exec.ensures.gone)

pub returns-clause-whole : goal.returns-clause-whole
returns-clause-whole g c = λ none.
    let s = c.self.inside in
    subst (λ (p : Standing). SkipsNone p.running.proc p.running.state → IfOk c.exec.result (IsWholeExec p (standing_of s.pid.0 s.count s.turns s.proc c.exec.new.self))) c.self.view_is
    (λ sound. whole_tells_so s.pid.0 s.count s.turns s.proc s.progress c.exec.new.self c.exec.result c.self.invariant.keeps.within
    (ap (λ (p : Standing). can_exec p.running) c.self.view_is ∙ c.requires) sound c.exec.ensures.gone)
    none
