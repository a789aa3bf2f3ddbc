-- The records that a reader takes (the bounds are this project's own): they can lie in memory, their names are name tokens, as those
-- of processes in a script, and their terms no larger than what is read.
use Rattle.std.specs.Prelude.{List}
use Rattle.sig_record.specs.declared.report.Report.{Report}
use Rattle.sig_record.specs.Records.{IsRecord}
use Rattle.sig_record.specs.StoredRecord.{IsStoredRecord}
use Rattle.sig_record.specs.SizedRecord.{IsSizedRecord}

pub record IsReadableRecord (reports : List Report) : Type 0 where
  pub kept : IsRecord reports
  pub stored : IsStoredRecord reports
  pub sized : IsSizedRecord reports

-- a reader takes the record, where its names are name tokens and its terms no larger than what is read
unfoldable pub CanBeReread : List Report → Type 0
CanBeReread reports = IsSizedRecord reports → IsReadableRecord reports
