use Rattle.std.proofs.Common.{rules, not, ap}
use Rattle.sig_links.proofs.Peers.{is_held, is_free, peer_added, peer_added-order}
use Rattle.sig_links.proofs.tables.add_peer.Goals as goal

pub returns-in_default-clause-added : goal.returns-in_default-clause-added
returns-in_default-clause-added c = ap not (is_held c.args.peer c.args.peers.now.items _ (rw c.deref.ensures.value at c.in_default.ensures.place))

pub returns-clause-order : goal.returns-clause-order
returns-clause-order c = rw c.in_ok-insert.ensures.items (peer_added-order c.args.peer c.args.peers.now.items c.in-Err.place c.requires (rw c.deref.ensures.value at c.in-Err.ensures.place))

pub returns-clause-added : goal.returns-clause-added
returns-clause-added c = ap not (is_free c.args.peer c.args.peers.now.items _ (rw c.deref.ensures.value at c.in-Err.ensures.place))

pub returns-clause-ok : goal.returns-clause-ok
returns-clause-ok c = rw c.in_ok-insert.ensures.items (peer_added c.args.peer c.args.peers.now.items c.in-Err.place (rw c.deref.ensures.value at c.in-Err.ensures.place))

pub returns-in_default-clause-ok : goal.returns-in_default-clause-ok
returns-in_default-clause-ok c = search rules
