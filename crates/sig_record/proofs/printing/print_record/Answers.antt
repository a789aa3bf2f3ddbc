use Rattle.std.proofs.Common.{subst}
use Rattle.std.proofs.lemmas.Result.{on_ok_weaker}
use Rattle.sig_record.specs.StoredRecord.{IsStoredRecord}
use Rattle.sig_record.proofs.SizedReads.{can_be_reread}
use Rattle.sig_record.proofs.printing.print_record.Goals as goal

pub returns-else-is_err-clause-readable : goal.returns-else-is_err-clause-readable
returns-else-is_err-clause-readable c =
    on_ok_weaker c.put_record-appended.result
    (λ stored. can_be_reread c.args.given.now c.reports.ensures.kept (subst IsStoredRecord c.reports.ensures.reports stored))
    c.put_record-appended.ensures.stored
