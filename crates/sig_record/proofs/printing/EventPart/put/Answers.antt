use Rattle.std.proofs.Common.{ℕ, List, ◌++◌, refl}
use Rattle.std.specs.Prelude.{codes, decimal}
use Rattle.sig_model.specs.declared.event.Event.{Event}
use Rattle.sig_record.specs.EventRows.{did_text, outcome_text}
use Rattle.sig_record.specs.RecordText.{event_text}
use Rattle.sig_record.proofs.Fronts.{two_put, put_behind}
use Rattle.sig_record.proofs.printing.EventPart.put.Goals as goal

pub returns-clause-text : goal.returns-clause-text
unfolding event_text
returns-clause-text c =
    let old : List ℕ = c.args.into.now.items in
    let now : List ℕ = c.put_spaced_outcome.new.into.items in
    let e : Event = c.args.self.now in
    let first : List ℕ = decimal e.stamp ++ codes " " ++ did_text e.did in
    let more : List ℕ = outcome_text e.outcome in
    put_behind c.put_byte.result old now c.put_byte.new.into.items (first ++ codes " " ++ more) (codes "\n") (event_text e)
    (two_put old c.put_act.new.into.items now first (codes " ") more c.in_ok-put_act.ensures.text.0 c.in_ok-put_spaced_outcome.ensures.text.0)
    c.put_byte.ensures refl
