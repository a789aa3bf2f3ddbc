use Rattle.sig_record.proofs.RecordLaws.{one_record}
use Rattle.sig_record.proofs.reading.texts_tell_records_apart.Goals as goal

pub returns : goal.returns
returns c = one_record
