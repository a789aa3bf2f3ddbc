use Rattle.std.proofs.Common.{◌≡◌, [], ◌∙◌, ap, ◌++◌, map, slice_get}
use Rattle.sig_model.specs.CrewLaw.{outbox_of}
use Rattle.sig_players.specs.Players.{crew_of}
use Rattle.sig_choices.specs.Origins.{origin_of}
use Rattle.sig_choices.proofs.Posting.{post_shorter}
use Rattle.sig_players.proofs.PlayingLemmas.{Moved, this_moved, one_posted, one_told}
use Rattle.sig_players.proofs.telling.post_telling.Goals as goal

pub loop-moved-smaller : goal.loop-moved-smaller
loop-moved-smaller c =
    let mid = crew_of c.loop-moved.players.items in
    let after = crew_of c.post_one.new.players.items in
    let w = this_moved ((after ≡ mid) × (outbox_of (slice_get mid c.args.at) ≡ [])) (Moved mid c.args.at after) c.in_ok-moved.moved c.in-Some.posted c.in-Some.is c.in_ok-moved.ensures.posted in
    post_shorter mid c.args.at after w.0

pub loop-moved-preserved : goal.loop-moved-preserved
loop-moved-preserved c =
    let mid = crew_of c.loop-moved.players.items in
    let after = crew_of c.post_one.new.players.items in
    let w = this_moved ((after ≡ mid) × (outbox_of (slice_get mid c.args.at) ≡ [])) (Moved mid c.args.at after) c.in_ok-moved.moved c.in-Some.posted c.in-Some.is c.in_ok-moved.ensures.posted in
    record {
      ready = c.in_ok-moved.ensures.ready;
      len = c.in_ok-moved.ensures.len ∙ c.loop-moved.invariant.len;
      posted = one_posted (crew_of c.args.players.now.items) mid after c.args.at c.loop-moved.invariant.posted w.0;
      told =
          ap (λ os. os ++ map (origin_of c.args.event) (outbox_of (slice_get after c.args.at))) c.in_ok-add.ensures
          ∙ one_told c.args.event mid after c.args.at c.in-Some.posted w c.loop-moved.origins
          ∙ c.loop-moved.invariant.told;
    }
