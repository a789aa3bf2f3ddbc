use Rattle.sig_tool.proofs.OrderLemmas.{order_so}
use Rattle.sig_tool.proofs.ordering.order_of.Goals as goal

pub build-requires : goal.build-requires
build-requires c = c.in_ok-origins.ensures.traced

pub returns : goal.returns
returns c = order_so c.args.given.now.script c.args.given.now.told c.in_ok-origins.origins c.in_ok-origins.ensures.those c.build.result c.build.ensures
