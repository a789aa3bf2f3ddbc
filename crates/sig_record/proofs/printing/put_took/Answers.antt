use Rattle.std.proofs.Common.{arith}
use Rattle.sig_record.proofs.Digits.{few_digits}
use Rattle.sig_record.proofs.printing.put_took.Goals as goal

pub write_digits-at-requires : goal.write_digits-at-requires
write_digits-at-requires c = (omega (arith, few_digits c.args.looked (omega arith)), omega arith)

pub write_word-at-requires-clause-word : goal.write_word-at-requires-clause-word
write_word-at-requires-clause-word c = omega (arith, few_digits c.args.looked (omega arith))

pub write_digits-at-requires-2 : goal.write_digits-at-requires-2
write_digits-at-requires-2 c = (
  omega (arith, few_digits c.args.looked (omega arith), few_digits c.from.result (omega arith)),
  omega arith,
)

pub write_word-at-requires-2-clause-word : goal.write_word-at-requires-2-clause-word
write_word-at-requires-2-clause-word c = omega (arith, few_digits c.args.looked (omega arith), few_digits c.from.result (omega arith))
