use Rattle.std.proofs.Common.{sym, subst}
use Rattle.sig_model.specs.Keeping.{IsArriving}
use Rattle.sig_process.specs.Standing.{Standing}
use Rattle.sig_process.proofs.SoundLemmas.{arrived_sound}
use Rattle.sig_process.proofs.process.Process.arrive.Goals as goal

pub invariant_of-self : goal.invariant_of-self
invariant_of-self c =
    let s = c.self.inside in
    arrived_sound s.pid.0 s.count s.turns s.proc s.progress c.self.invariant c.push.new.self c.args.signal c.push.result
    (subst (λ (p : Standing). IsArriving p.running.pid p.running.count c.args.signal) (sym c.self.view_is) c.requires) c.push.ensures
