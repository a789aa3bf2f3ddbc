use Rattle.std.proofs.Common.{◌<◌, arith, w64}
use Rattle.std.proofs.lemmas.Nat.Bits.{bit_at-trailing_zeros}
use Rattle.sig_layout.proofs.senders.lowest_bit.Goals as goal

pub returns-clause-within : goal.returns-clause-within
returns-clause-within c = let some : 0 < c.args.word = omega (arith, c.requires) in (bit_at-trailing_zeros w64 c.args.word some c.ranges.word.fits).0

pub returns-clause-one : goal.returns-clause-one
returns-clause-one c = let some : 0 < c.args.word = omega (arith, c.requires) in (bit_at-trailing_zeros w64 c.args.word some c.ranges.word.fits).1

pub returns-clause-lowest : goal.returns-clause-lowest
returns-clause-lowest c = let some : 0 < c.args.word = omega (arith, c.requires) in (bit_at-trailing_zeros w64 c.args.word some c.ranges.word.fits).2
