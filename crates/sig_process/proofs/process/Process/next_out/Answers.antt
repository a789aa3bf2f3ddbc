use Rattle.std.proofs.Common.{subst}
use Rattle.std.specs.Prelude.{IfSome}
use Rattle.sig_model.specs.Keeping.{IsArriving}
use Rattle.sig_process.specs.Standing.{Standing}
use Rattle.sig_process.proofs.SoundLemmas.{out_sound, out_arrives}
use Rattle.sig_process.proofs.process.Process.next_out.Goals as goal

pub invariant_of-self : goal.invariant_of-self
invariant_of-self c =
    let s = c.self.inside in
    out_sound s.pid.0 s.count s.turns s.proc s.progress c.self.invariant c.pop_front.new.self c.pop_front.result c.pop_front.ensures.items

pub returns-clause-arriving : goal.returns-clause-arriving
returns-clause-arriving c =
    let s = c.self.inside in
    subst (λ (p : Standing). IfSome c.pop_front.result (λ first. IsArriving first.to.0 p.running.count first)) c.self.view_is
    (out_arrives s.pid.0 s.count s.turns s.proc s.progress c.self.invariant c.pop_front.new.self c.pop_front.result c.pop_front.ensures.items)
