-- The origins of the signals of the run of which a record is (this project's own).
use Rattle.std.specs.Prelude.{◌≡◌, List}
use Rattle.sig_program.specs.Scripts.{Program}
use Rattle.sig_model.specs.declared.origin.Origin.{Origin}
use Rattle.sig_choices.specs.Origins.{origins_of}
use Rattle.sig_record.specs.declared.report.Report.{Report}
use Rattle.sig_record.specs.declared.merging.MergedAt.{MergedAt}
use Rattle.sig_record.specs.Merging.{IsMerged}
use Rattle.sig_record.specs.RunRecord.{events_listed}

-- these are the origins of the signals of the run whose events are those of the record, in their order
pub record AreOrigins (script : Program) (reports : List Report) (origins : List Origin) : Type 0 where
  pub order : List MergedAt
  pub merged : IsMerged reports order
  pub told : origins ≡ origins_of script (events_listed reports order)
