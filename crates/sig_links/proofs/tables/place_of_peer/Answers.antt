use Rattle.sig_links.proofs.Peers.{peer_place}
use Rattle.sig_links.proofs.tables.place_of_peer.Goals as goal

pub returns-clause-place : goal.returns-clause-place
returns-clause-place c = peer_place c.args.peer c.args.peers.now _ c.requires c.binary_search.ensures.position
