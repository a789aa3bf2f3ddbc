use Rattle.std.proofs.Common.{ap, ◌∙◌, subst}
use Rattle.sig_model.specs.Running.{can_handle}
use Rattle.sig_process.specs.Standing.{Standing}
use Rattle.sig_process.proofs.SoundLemmas.{handle_is_due, handle_answer, handle_tells_so, handle_keeps_sound}
use Rattle.sig_process.proofs.process.Process.handle.Goals as goal

pub handle-requires : goal.handle-requires
handle-requires c =
    let s = c.self.inside in
    record { due = handle_is_due s.pid.0 s.count s.turns s.proc s.progress s.progress c.self.invariant (ap (λ (p : Standing). can_handle p.running) c.self.view_is ∙ c.requires) }

pub invariant_of-self : goal.invariant_of-self
invariant_of-self c =
    let s = c.self.inside in
    handle_keeps_sound s.pid.0 s.count s.turns s.proc s.progress c.handle.new.self c.handle.result c.self.invariant (ap (λ (p : Standing). can_handle p.running) c.self.view_is ∙ c.requires) c.handle.ensures

pub returns : goal.returns
returns c =
    let s = c.self.inside in
    subst (λ (p : Standing). handle_answer s.pid.0 s.count s.turns s.proc c.handle.result p c.handle.new.self) c.self.view_is
    (handle_tells_so s.pid.0 s.count s.turns s.proc s.progress c.handle.new.self c.handle.result (ap (λ (p : Standing). can_handle p.running) c.self.view_is ∙ c.requires) c.handle.ensures)
