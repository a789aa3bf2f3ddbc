use Rattle.sig_model.proofs.MarkerLemmas.{keeps_sound, opening_sound}
use Rattle.sig_model.proofs.MarkedRuns.{script_fresh, from_mark, from_head, end_sound, none_skipped, still_settled}
use Rattle.sig_model.proofs.marker_law.a_run_from_marks_is_a_run.Goals as goal

pub returns-clause-fresh : goal.returns-clause-fresh
returns-clause-fresh c = script_fresh

pub returns-clause-keeps : goal.returns-clause-keeps
returns-clause-keeps c = keeps_sound

pub returns-clause-opened : goal.returns-clause-opened
returns-clause-opened c = opening_sound

pub returns-clause-sound : goal.returns-clause-sound
returns-clause-sound c = end_sound

pub returns-clause-skips_none : goal.returns-clause-skips_none
returns-clause-skips_none c = none_skipped

pub returns-clause-from_the_mark : goal.returns-clause-from_the_mark
returns-clause-from_the_mark c = from_mark

pub returns-clause-from_the_head : goal.returns-clause-from_the_head
returns-clause-from_the_head c = from_head

pub returns-clause-settled : goal.returns-clause-settled
returns-clause-settled c = still_settled
