use Rattle.sig_model.proofs.MarkedRuns.{from_mark}
use Rattle.sig_model.proofs.SizeLaw.{sizes_everywhere}
use Rattle.sig_model.proofs.term_sizes.terms_stay_small.Goals as goal

pub returns-clause-from_marks : goal.returns-clause-from_marks
returns-clause-from_marks c = sizes_everywhere

pub returns-clause-over_all : goal.returns-clause-over_all
returns-clause-over_all c = λ script events end within run. sizes_everywhere script events end (from_mark script events end within run)
