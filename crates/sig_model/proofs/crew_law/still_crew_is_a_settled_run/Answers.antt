use Rattle.sig_model.proofs.LawfulEndLemmas.{still_run}
use Rattle.sig_model.proofs.crew_law.still_crew_is_a_settled_run.Goals as goal

pub returns : goal.returns
returns c = λ script crew order law clear still o. still_run script crew law clear still order o
