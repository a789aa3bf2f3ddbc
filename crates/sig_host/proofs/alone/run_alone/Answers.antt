use Rattle.sig_host.specs.Told.{text_in}
use Rattle.sig_host.proofs.AnswerLemmas.{complete}
use Rattle.sig_host.proofs.alone.run_alone.Goals as goal

pub returns-in-Ok-clause-complete : goal.returns-in-Ok-clause-complete
returns-in-Ok-clause-complete g c = complete _ _ (text_in c.in-Ok.ending.summary) _ c.in-Ok.ending.status c.in-Ok.ensures.answer
