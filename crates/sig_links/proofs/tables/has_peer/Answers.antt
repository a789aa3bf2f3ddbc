use Rattle.std.proofs.Common.{◌∙◌}
use Rattle.sig_links.proofs.Peers.{holds_from_place}
use Rattle.sig_links.proofs.tables.has_peer.Goals as goal

pub returns : goal.returns
returns c = c.is_ok.ensures.value ∙ holds_from_place c.args.peer c.args.peers.now _ c.place_of_peer.ensures.place
