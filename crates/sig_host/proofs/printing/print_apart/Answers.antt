use Rattle.std.proofs.Common.{subst}
use Rattle.std.proofs.lemmas.Result.{on_ok_weaker}
use Rattle.sig_record.specs.StoredRecord.{IsStoredRecord}
use Rattle.sig_record.proofs.SizedReads.{can_be_reread}
use Rattle.sig_host.proofs.printing.print_apart.Goals as goal

pub returns-clause-readable : goal.returns-clause-readable
returns-clause-readable g c =
    on_ok_weaker c.add_apart.result
    (λ stored. can_be_reread c.args.given.now c.reports.ensures.kept (subst IsStoredRecord c.reports.ensures.reports stored))
    c.add_apart.ensures.stored
