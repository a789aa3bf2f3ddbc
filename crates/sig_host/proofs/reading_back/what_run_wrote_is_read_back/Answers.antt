use Rattle.sig_host.proofs.RecordLemmas.{read_back}
use Rattle.sig_host.proofs.reading_back.what_run_wrote_is_read_back.Goals as goal

pub returns : goal.returns
returns c words r w summary input output answer left held new = read_back input output summary words r w left held new answer
