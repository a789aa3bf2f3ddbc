use Rattle.sig_linklaw.proofs.CrewLemmas.{crew_of_one_mind}
use Rattle.sig_linklaw.proofs.OrderLemmas.{pairs_ascend, pairs_have_low_first}
use Rattle.sig_linklaw.proofs.ReportLemmas.{listed_first, listed_second}
use Rattle.sig_linklaw.proofs.law.waiting_processes_agree_on_their_link.Goals as goal

pub returns-clause-law : goal.returns-clause-law
returns-clause-law c = crew_of_one_mind

pub returns-clause-first : goal.returns-clause-first
returns-clause-first c = listed_first

pub returns-clause-second : goal.returns-clause-second
returns-clause-second c = listed_second

pub returns-clause-low : goal.returns-clause-low
returns-clause-low c = pairs_have_low_first

pub returns-clause-ascending : goal.returns-clause-ascending
returns-clause-ascending c = λ script crew law. pairs_ascend crew (λ p r at. (law.placed p r at).0)
