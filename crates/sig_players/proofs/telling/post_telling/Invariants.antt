use Rattle.std.proofs.Common.{◌≡◌, ◌++◌, map, slice_get, length, vec_len}
use Rattle.sig_model.specs.CrewLaw.{outbox_of}
use Rattle.sig_players.specs.Players.{crew_of, AreReady}
use Rattle.sig_choices.specs.Choosing.{HasPosted}
use Rattle.sig_choices.specs.Origins.{origin_of}
use Rattle.sig_players.proofs.telling.post_telling.Given as goal

abbrev pub invariant-loop-moved : goal.invariant-loop-moved
invariant-loop-moved l = record {
  ready : AreReady l.players.items;
  len : vec_len l.players ≡ vec_len l.fn.players;
  posted : HasPosted (crew_of l.fn.players.items) l.at (crew_of l.players.items);
  told : l.origins ++ map (origin_of l.event) (outbox_of (slice_get (crew_of l.players.items) l.at))
      ≡ l.fn.origins ++ map (origin_of l.event) (outbox_of (slice_get (crew_of l.fn.players.items) l.at));
}

abbrev pub decreases-loop-moved : goal.decreases-loop-moved
decreases-loop-moved l = length (outbox_of (slice_get (crew_of l.players.items) l.at))
