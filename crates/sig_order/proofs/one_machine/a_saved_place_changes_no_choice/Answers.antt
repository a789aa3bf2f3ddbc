use Rattle.sig_order.proofs.SameChoices.{marked_same, whole_same}
use Rattle.sig_order.proofs.one_machine.a_saved_place_changes_no_choice.Goals as goal

pub returns-clause-from_marks : goal.returns-clause-from_marks
returns-clause-from_marks c = λ script events end within run. marked_same script within events end run

pub returns-clause-over_all : goal.returns-clause-over_all
returns-clause-over_all c = λ script events end within run. whole_same script within events end run
