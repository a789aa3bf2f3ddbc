use Rattle.sig_record.proofs.SizedCrews.{record_sized, record_readable, record_reread}
use Rattle.sig_record.proofs.runs.a_lawful_crew_tells_a_readable_record.Goals as goal

pub returns-clause-sized : goal.returns-clause-sized
returns-clause-sized c = record_sized

pub returns-clause-readable : goal.returns-clause-readable
returns-clause-readable c = record_readable

pub returns-clause-again : goal.returns-clause-again
returns-clause-again c = record_reread
