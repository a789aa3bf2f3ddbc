use Rattle.std.proofs.Common.{rules, refl}
use Rattle.sig_queue.proofs.Ties.{takes_buffer, word_is}
use Rattle.sig_queue.proofs.Bodies.{OneStep}
use Rattle.sig_queue.proofs.words.buffer_steps.try_buffer.Code as code
use Rattle.sig_queue.proofs.words.buffer_steps.try_buffer.Goals as goal

pub compare_exchange-requires : goal.compare_exchange-requires
compare_exchange-requires c = (search rules, search rules, takes_buffer _ _ _ c.args.buffer _ _ _ c.requires.table.2 (word_is c.args.buffer refl) c.requires.apart c.requires.somebody.0 c.requires.somebody.1)

pub returns-clause-took : goal.returns-clause-took
returns-clause-took c = (c.compare_exchange.ensures.2 c.args.buffer (word_is c.args.buffer refl)).0

pub returns-clause-refused : goal.returns-clause-refused
returns-clause-refused c = (c.compare_exchange.ensures.2 c.args.buffer (word_is c.args.buffer refl)).1

one_step : OneStep code.function
one_step = (refl, refl, refl)
