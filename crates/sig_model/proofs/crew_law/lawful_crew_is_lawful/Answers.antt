use Rattle.sig_model.proofs.LawLemmas.{lawful_at_work, lawful_clear}
use Rattle.sig_model.proofs.crew_law.lawful_crew_is_lawful.Goals as goal

pub returns-clause-at_work : goal.returns-clause-at_work
returns-clause-at_work c = lawful_at_work

pub returns-clause-clear : goal.returns-clause-clear
returns-clause-clear c = lawful_clear
