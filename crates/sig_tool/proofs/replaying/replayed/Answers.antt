use Rattle.sig_tool.proofs.AgainLemmas.{not_stopped, replayed_so, same_again}
use Rattle.sig_tool.proofs.replaying.replayed.Goals as goal

pub unreachable-requires : goal.unreachable-requires
unreachable-requires c = not_stopped c.args.given.now.script c.args.given.now.told c.in_ok-made.made c.requires c.in_ok-made.ensures.again c.in-Stopped.event c.in-Stopped.is

pub returns-clause-made : goal.returns-clause-made
returns-clause-made c = replayed_so _ _ c.in_ok-made.made c.in-Replayed.crew c.in-Replayed.origins c.in-Replayed.is c.in_ok-made.ensures.replay

pub returns-clause-again : goal.returns-clause-again
returns-clause-again c =
    same_again c.args.given.now.script c.args.given.now.told c.in_ok-made.made c.requires c.in_ok-made.ensures.again c.in-Replayed.crew c.in-Replayed.origins c.in-Replayed.is
