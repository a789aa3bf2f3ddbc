use Rattle.std.proofs.Common.{inl, inr, refl, arith}
use Rattle.sig_players.proofs.TellingLemmas.{own_none, own_more, own_all}
use Rattle.sig_players.proofs.telling.tell_own.Goals as goal

pub loop-number-init : goal.loop-number-init
loop-number-init c = record {
  least = omega arith;
  most = inl refl;
  told = own_none c.args.pid.0 c.args.event c.args.first c.args.origins.now;
}

pub loop-number-preserved : goal.loop-number-preserved
loop-number-preserved c = record {
  least = omega (arith, c.loop-number.invariant.least);
  most = inr (omega (arith, c.loop-number-test.true));
  told = own_more c.args.pid.0 c.args.event c.args.first c.loop-number.number c.args.origins.now c.loop-number.origins c.add.new.self c.loop-number.invariant.least c.loop-number.invariant.told c.in_ok-add.ensures;
}

pub returns : goal.returns
returns c = own_all c.args.pid.0 c.args.event c.args.first c.loop-number.number c.args.end c.args.origins.now c.loop-number.origins c.loop-number.invariant.least c.loop-number.invariant.most c.loop-number-test.false c.loop-number.invariant.told
