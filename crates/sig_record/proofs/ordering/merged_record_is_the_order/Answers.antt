use Rattle.std.proofs.Common.{◌≡◌, refl, ◌∙◌}
use Rattle.sig_program.specs.Scripts.{Program}
use Rattle.sig_model.specs.declared.event.Event.{Event}
use Rattle.sig_model.specs.Machine.{rules_with, rules_of}
use Rattle.sig_record.specs.RecordOf.{record_of}
use Rattle.sig_record.proofs.OrderLemmas.{merged_is_order}
use Rattle.sig_record.proofs.RecordLemmas.{record_events}
use Rattle.sig_record.proofs.ordering.merged_record_is_the_order.Goals as goal

-- the stamp of an event, by the rules of a script
stamped : (script : Program) (e : Event) → (rules_of script).event_stamp e ≡ e.stamp
unfolding rules_with
stamped script e = refl

pub returns-clause-reports : goal.returns-clause-reports
returns-clause-reports c = λ script reports members order told merged. merged_is_order (rules_of script) (stamped script) reports members told order merged

pub returns-clause-crew : goal.returns-clause-crew
returns-clause-crew c = λ script crew members order told merged. merged_is_order (rules_of script) (stamped script) (record_of crew) members (λ p. told p ∙ record_events crew p) order merged
