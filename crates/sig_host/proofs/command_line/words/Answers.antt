use Rattle.std.proofs.Common.{Err}
use Rattle.sig_host.specs.declared.words_error.WordsError.TheVariants.{Usage}
use Rattle.sig_host.proofs.PlainLemmas.{plain_answer}
use Rattle.sig_host.proofs.WordsLemmas.{parsed, parsed_none, refused}
use Rattle.sig_host.proofs.command_line.words.Goals as goal

pub returns-in-Some-clause-answer : goal.returns-in-Some-clause-answer
returns-in-Some-clause-answer c = parsed _ _ c.in-Ok.matches _ c.in_ok-command.ensures c.in-Ok.ensures.matches c.in-Ok.ensures.kinds c.in-Some.ensures.settings

pub returns-in-Some-clause-plain : goal.returns-in-Some-clause-plain
returns-in-Some-clause-plain c = plain_answer _ _ (parsed _ _ c.in-Ok.matches _ c.in_ok-command.ensures c.in-Ok.ensures.matches c.in-Ok.ensures.kinds c.in-Some.ensures.settings)

pub returns-in-Ok-clause-answer : goal.returns-in-Ok-clause-answer
returns-in-Ok-clause-answer c = parsed_none _ _ c.in-Ok.matches c.in_ok-command.ensures c.in-Ok.ensures.matches c.in-Ok.ensures.kinds c.in-None.ensures.settings

pub returns-in-Ok-clause-plain : goal.returns-in-Ok-clause-plain
returns-in-Ok-clause-plain c = plain_answer _ (Err Usage) (parsed_none _ _ c.in-Ok.matches c.in_ok-command.ensures c.in-Ok.ensures.matches c.in-Ok.ensures.kinds c.in-None.ensures.settings)

pub returns-clause-answer : goal.returns-clause-answer
returns-clause-answer c = refused _ _ _ _ c.in_ok-command.ensures c.in-Err.ensures.passes c.in-Err.ensures.kinds c.refusal.ensures.memory

pub returns-clause-plain : goal.returns-clause-plain
returns-clause-plain c = plain_answer _ (Err c.refusal.result) (refused _ _ _ _ c.in_ok-command.ensures c.in-Err.ensures.passes c.in-Err.ensures.kinds c.refusal.ensures.memory)
