-- A record whose names are name tokens, whose terms are no larger than what is read, and which lies in memory can be read.
use Rattle.std.proofs.Common.{List}
use Rattle.sig_record.specs.declared.report.Report.{Report}
use Rattle.sig_record.specs.Records.{IsRecord}
use Rattle.sig_record.specs.StoredRecord.{IsStoredRecord}
use Rattle.sig_record.specs.SizedRecord.{IsSizedRecord}
use Rattle.sig_record.specs.ReadableRecord.{IsReadableRecord, CanBeReread}

pub can_be_reread : (reports : List Report) → IsRecord reports → IsStoredRecord reports → CanBeReread reports
unfolding CanBeReread
can_be_reread reports kept stored sized = record { kept = kept; stored = stored; sized = sized }

pub readable_by : (reports : List Report) → CanBeReread reports → IsSizedRecord reports → IsReadableRecord reports
unfolding CanBeReread
readable_by reports can sized = can sized
