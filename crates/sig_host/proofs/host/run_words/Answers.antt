use Rattle.sig_host.specs.Told.{text_in}
use Rattle.sig_host.proofs.RunLemmas.{answered_later, taken_later}
use Rattle.sig_host.proofs.host.run_words.Goals as goal

pub returns-in-Err-clause-answer : goal.returns-in-Err-clause-answer
returns-in-Err-clause-answer g c =
    answered_later _ c.in-Err.settings c.run_several.result.status (text_in c.run_several.result.summary) _ _ _ _ _ _ _ _ _ _ _ _
    c.in-Err.ensures.settings.0 c.in-Err.ensures.unread c.in-Err.ensures.unwritten c.run_several.ensures.run

pub returns-in-Err-clause-taken : goal.returns-in-Err-clause-taken
returns-in-Err-clause-taken g c = taken_later _ _ _ _ _ _ (g.S.Source.faults c.run_several.new.script) c.in-Err.ensures.unread c.run_several.ensures.taken
