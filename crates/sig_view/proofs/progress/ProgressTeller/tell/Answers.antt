use Rattle.std.proofs.Common.{inr}
use Rattle.sig_edge.proofs.TellingLemmas.{begun, said}
use Rattle.sig_view.proofs.progress.ProgressTeller.tell.Goals as goal

pub returns-then-is_due-clause-beginning : goal.returns-then-is_due-clause-beginning
returns-then-is_due-clause-beginning g c = begun _ _ _ _ _ c.tell_progress.result c.tell_progress.ensures

pub returns-then-is_due-clause-line : goal.returns-then-is_due-clause-line
returns-then-is_due-clause-line g c none = inr (said _ _ _ _ _ c.tell_progress.result c.tell_progress.ensures none)
