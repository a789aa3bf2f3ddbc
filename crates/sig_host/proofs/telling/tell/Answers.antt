use Rattle.sig_edge.proofs.TellingLemmas.{begun, once_at_most, said}
use Rattle.sig_host.proofs.telling.tell.Goals as goal

pub returns-clause-beginning : goal.returns-clause-beginning
returns-clause-beginning g c = begun _ _ _ _ _ c.tell_status.result c.tell_status.ensures

pub returns-clause-told : goal.returns-clause-told
returns-clause-told g c = said _ _ _ _ _ c.tell_status.result c.tell_status.ensures

pub returns-clause-once : goal.returns-clause-once
returns-clause-once g c = once_at_most _ _ _ _ _ c.tell_status.result c.tell_status.ensures
