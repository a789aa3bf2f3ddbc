use Rattle.sig_view.proofs.AnswerLemmas.{complete}
use Rattle.sig_view.proofs.DueLemmas.{one_due}
use Rattle.sig_view.proofs.due.one_status_is_due.Goals as goal

pub returns-clause-due : goal.returns-clause-due
returns-clause-due c = one_due

pub returns-clause-answer : goal.returns-clause-answer
returns-clause-answer c = complete
