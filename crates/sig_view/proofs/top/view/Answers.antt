use Rattle.sig_view.proofs.AnswerLemmas.{complete}
use Rattle.sig_view.proofs.top.view.Goals as goal

pub returns-clause-complete : goal.returns-clause-complete
returns-clause-complete g c = λ command bytes due is_due given. complete command _ bytes due c.run_words-status.result _ _ is_due given c.run_words-status.ensures.answer
