use Rattle.sig_record.proofs.RunLemmas.{merged_run, record_of_a_run, settled_whole_run}
use Rattle.sig_record.proofs.RestLemmas.{still_settled}
use Rattle.sig_record.proofs.runs.a_lawful_crew_tells_a_run.Goals as goal

pub returns-clause-merged : goal.returns-clause-merged
returns-clause-merged c = λ script crew order law clear merged. merged_run script crew law clear order merged

pub returns-clause-record : goal.returns-clause-record
returns-clause-record c = record_of_a_run

pub returns-clause-settled : goal.returns-clause-settled
returns-clause-settled c = settled_whole_run

pub returns-clause-still : goal.returns-clause-still
returns-clause-still c = still_settled
