use Rattle.sig_tool.proofs.OrderLemmas.{replay_traced}
use Rattle.sig_tool.proofs.origins.origins_of.Goals as goal

pub returns-clause-those : goal.returns-clause-those
returns-clause-those c = let w = c.in_ok-made.ensures.made in record { order = w.order; merged = w.merged; told = w.told }

pub returns-clause-traced : goal.returns-clause-traced
returns-clause-traced c =
    replay_traced c.args.given.now.script c.args.given.now.told _ c.in_ok-made.made.1 c.count-count.ensures.sound c.requires c.in_ok-made.ensures.made
