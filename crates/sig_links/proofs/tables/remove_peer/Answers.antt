use Rattle.sig_links.proofs.Peers.{is_held, is_free, peer_absent, peer_removed, peer_removed-order}
use Rattle.sig_links.proofs.tables.remove_peer.Goals as goal

pub returns-in_default-clause-removed : goal.returns-in_default-clause-removed
returns-in_default-clause-removed c = is_free c.args.peer c.args.peers.now.items _ (rw c.deref.ensures.value at c.in_default.ensures.place)

pub returns-in_default-clause-peers : goal.returns-in_default-clause-peers
returns-in_default-clause-peers c = peer_absent c.args.peer c.args.peers.now.items _ (rw c.deref.ensures.value at c.in_default.ensures.place)

pub returns-clause-order : goal.returns-clause-order
returns-clause-order c = rw c.remove.ensures.items (peer_removed-order c.args.peer c.args.peers.now.items c.in-Ok.place c.requires (rw c.deref.ensures.value at c.in-Ok.ensures.place))

pub returns-clause-removed : goal.returns-clause-removed
returns-clause-removed c = is_held c.args.peer c.args.peers.now.items _ (rw c.deref.ensures.value at c.in-Ok.ensures.place)

pub returns-clause-peers : goal.returns-clause-peers
returns-clause-peers c = rw c.remove.ensures.items (peer_removed c.args.peer c.args.peers.now.items c.in-Ok.place (rw c.deref.ensures.value at c.in-Ok.ensures.place))
