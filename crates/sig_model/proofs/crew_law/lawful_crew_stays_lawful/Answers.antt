use Rattle.std.proofs.Common.{inl, inr}
use Rattle.sig_model.proofs.KeptLawLemmas.{step_lawful, receiver, delivery_lawful}
use Rattle.sig_model.proofs.StillLemmas.{run_clear}
use Rattle.sig_model.proofs.LawfulRunLemmas.{sound_lawful, visit_lawful, run_lawful}
use Rattle.sig_model.proofs.crew_law.lawful_crew_stays_lawful.Goals as goal

pub returns-clause-opened : goal.returns-clause-opened
returns-clause-opened c = sound_lawful

pub returns-clause-executed : goal.returns-clause-executed
returns-clause-executed c = λ script crew p r t law there e. step_lawful script crew law p r there t (inr e)

pub returns-clause-handled : goal.returns-clause-handled
returns-clause-handled c = λ script crew p r t law there e. step_lawful script crew law p r there t (inl e)

pub returns-clause-delivered : goal.returns-clause-delivered
returns-clause-delivered c = λ script crew p r x left law there oldest.
    let w = receiver script crew law p r there x left oldest in
    (w.0, w.1, delivery_lawful script crew law p r there x left oldest w.0 w.1)

pub returns-clause-visited : goal.returns-clause-visited
returns-clause-visited c = λ script crew p law. visit_lawful script p crew law

pub returns-clause-run : goal.returns-clause-run
returns-clause-run c = λ script crew last law run. run_lawful script crew last run law

pub returns-clause-clear : goal.returns-clause-clear
returns-clause-clear c = λ crew last clear run. run_clear crew last run clear
