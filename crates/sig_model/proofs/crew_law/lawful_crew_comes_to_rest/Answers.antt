use Rattle.sig_model.proofs.LawfulRunLemmas.{still_settled, run_settled}
use Rattle.sig_model.proofs.crew_law.lawful_crew_comes_to_rest.Goals as goal

pub returns-clause-still : goal.returns-clause-still
returns-clause-still c = still_settled

pub returns-clause-run : goal.returns-clause-run
returns-clause-run c = run_settled
