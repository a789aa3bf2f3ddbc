use Rattle.sig_choices.specs.Origins.{origins_of}
use Rattle.sig_record.specs.RunRecord.{events_listed}
use Rattle.sig_order.proofs.OriginsTraced.{traced, queued_told}
use Rattle.sig_view.proofs.QueuedLemmas.{all_from_senders}
use Rattle.sig_view.proofs.laws.queued_signals_of_a_run_are_drawn.Goals as goal

pub returns : goal.returns
returns c = λ script machine reports w shown sound within run are.
    all_from_senders script reports (origins_of script (events_listed reports run.order)) (traced script machine reports sound within run) w shown are
    (queued_told script machine reports sound within run)
