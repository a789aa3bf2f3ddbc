use Rattle.std.proofs.Common.{add-one}
use Rattle.sig_links.proofs.Peers.{above_at, above_gap}
use Rattle.sig_links.proofs.tables.place_above.Goals as goal

pub returns-in-Ok : goal.returns-in-Ok
returns-in-Ok c = rw (c.in-Some.is, add-one) (above_at c.in-Some.bound.0 c.args.peers.now c.in-Ok.place c.in-Ok.ensures.place)

pub returns-in-Err : goal.returns-in-Err
returns-in-Err c = rw c.in-Some.is (above_gap c.in-Some.bound.0 c.args.peers.now c.in-Err.place c.in-Err.ensures.place)
