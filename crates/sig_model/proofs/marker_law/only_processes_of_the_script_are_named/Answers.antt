use Rattle.sig_model.proofs.MarkedRuns.{marked_names, from_mark}
use Rattle.sig_model.proofs.marker_law.only_processes_of_the_script_are_named.Goals as goal

pub returns-clause-from_marks : goal.returns-clause-from_marks
returns-clause-from_marks c = marked_names

pub returns-clause-over_all : goal.returns-clause-over_all
returns-clause-over_all c = λ script events end sound within run. marked_names script events end sound (from_mark script events end within run)
