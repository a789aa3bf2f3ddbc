use Rattle.std.proofs.Common.{inl, inr}
use Rattle.sig_model.proofs.KeptLawLemmas.{step_applies, delivery_still}
use Rattle.sig_model.proofs.crew_law.lawful_crew_goes_by_steps.Goals as goal

pub returns-clause-executed : goal.returns-clause-executed
returns-clause-executed c = λ script crew p r t law there e. step_applies script crew law p r there t (inr e)

pub returns-clause-handled : goal.returns-clause-handled
returns-clause-handled c = λ script crew p r t law there e. step_applies script crew law p r there t (inl e)

pub returns-clause-delivered : goal.returns-clause-delivered
returns-clause-delivered c = λ script crew p r u x left law there oldest at. delivery_still script crew law p r there x left oldest u at
