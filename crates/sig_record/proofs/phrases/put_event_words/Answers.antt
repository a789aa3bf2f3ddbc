use Rattle.std.proofs.Common.{ℕ, List, ◌++◌}
use Rattle.std.specs.Prelude.{codes}
use Rattle.sig_model.specs.declared.event.Event.{Event}
use Rattle.sig_record.specs.EventRows.{did_text, outcome_text}
use Rattle.sig_record.proofs.Fronts.{put_with_gap}
use Rattle.sig_record.proofs.phrases.put_event_words.Goals as goal

pub returns : goal.returns
returns c =
    let e : Event = c.args.event.now in
    put_with_gap c.put_spaced_outcome.result c.args.into.now.items c.put_did.new.into.items c.put_spaced_outcome.new.into.items (did_text e.did) (codes " ") (outcome_text e.outcome)
    c.in_ok-put_did.ensures.0 c.put_spaced_outcome.ensures.text
