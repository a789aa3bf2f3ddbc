-- What contracts see of the order of a record's events: the record, and the origins of its signals.
use Rattle.std.specs.Prelude.{List}
use Rattle.sig_model.specs.declared.origin.Origin.{Origin}
use Rattle.sig_record.specs.declared.report.Report.{Report}

pub record Told : Type 0 where
  pub reports : List Report
  pub origins : List Origin
