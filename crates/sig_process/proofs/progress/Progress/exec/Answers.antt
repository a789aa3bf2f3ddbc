use Rattle.sig_process.proofs.SoundLemmas.{unsaved}
use Rattle.sig_process.proofs.progress.Progress.exec.Goals as goal

pub returns-in_ok-perform-in_default-clause-saved : goal.returns-in_ok-perform-in_default-clause-saved
returns-in_ok-perform-in_default-clause-saved g c = unsaved _ c.perform.new.self c.in_ok-perform-in_default.ensures.unsaved
