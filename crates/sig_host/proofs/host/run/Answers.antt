use Rattle.std.proofs.Common.{rules}
use Rattle.sig_host.specs.Told.{text_in}
use Rattle.sig_host.proofs.AnswerLemmas.{complete}
use Rattle.sig_host.proofs.host.run.Goals as goal

pub returns-clause-complete : goal.returns-clause-complete
returns-clause-complete g c = complete _ _ (text_in c.run_words-ending.result.summary) _ c.run_words-ending.result.status c.run_words-ending.ensures.answer

pub returns-clause-answer : goal.returns-clause-answer
returns-clause-answer g c = search rules
