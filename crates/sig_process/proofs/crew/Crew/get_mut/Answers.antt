use Rattle.std.proofs.Common.{refl}
use Rattle.sig_process.proofs.Lists.{standing_lent}
use Rattle.sig_process.proofs.crew.Crew.get_mut.Goals as goal

pub returns : goal.returns
returns c =
    let items = c.self.inside.procs.items in
    (rw⁻¹ c.self.view_is refl, record { lends = tt; process = rw⁻¹ c.self.view_is (standing_lent items c.args.pid.0 c.get_mut.result c.get_mut.ensures.item) })
