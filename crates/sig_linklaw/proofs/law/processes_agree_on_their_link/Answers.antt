use Rattle.sig_linklaw.proofs.LawLemmas.{links_agree, law_from_marks, law_over_all}
use Rattle.sig_linklaw.proofs.law.processes_agree_on_their_link.Goals as goal

pub returns-clause-from_marks : goal.returns-clause-from_marks
returns-clause-from_marks c = law_from_marks

pub returns-clause-over_all : goal.returns-clause-over_all
returns-clause-over_all c = law_over_all

pub returns-clause-always : goal.returns-clause-always
returns-clause-always c = links_agree
