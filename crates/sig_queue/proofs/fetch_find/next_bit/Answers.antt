use Rattle.std.proofs.Common.{refl, []}
use Rattle.sig_queue.proofs.NextBits.{none_left, next_set, next_within, next_lowest}
use Rattle.sig_queue.proofs.Bodies.{Keeps}
use Rattle.sig_queue.proofs.fetch_find.next_bit.Code as code
use Rattle.sig_queue.proofs.fetch_find.next_bit.Goals as goal

pub returns-then-left-eq0-clause-passed : goal.returns-then-left-eq0-clause-passed
returns-then-left-eq0-clause-passed c = none_left c.args.bits c.args.from 64 c.if-left-eq0.true

pub returns-clause-within : goal.returns-clause-within
returns-clause-within c = next_within c.args.bits c.args.from c.ranges.bits.fits c.if-left-eq0.false

pub returns-clause-passed : goal.returns-clause-passed
returns-clause-passed c = next_lowest c.args.bits c.args.from c.ranges.bits.fits c.if-left-eq0.false

pub returns-clause-set : goal.returns-clause-set
returns-clause-set c _ = next_set c.args.bits c.args.from c.ranges.bits.fits c.if-left-eq0.false

code_keeps : Keeps [] code.function
code_keeps = (refl, refl)
