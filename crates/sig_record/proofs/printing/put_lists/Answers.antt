use Rattle.std.proofs.Common.{ℕ, List, ◌++◌, ap, ◌∙◌, append_assoc, subst}
use Rattle.std.specs.List.{flat_map}
use Rattle.sig_kinds.specs.declared.signal.Signal.{Signal}
use Rattle.sig_terms.specs.Putting.{IsPut}
use Rattle.sig_record.specs.declared.report.Left.{Left}
use Rattle.sig_record.specs.RecordText.{head_text, event_text, left_text, queued_text}
use Rattle.sig_record.proofs.Fronts.{put_behind}
use Rattle.sig_record.proofs.printing.put_lists.Goals as goal

pub returns-clause-text : goal.returns-clause-text
returns-clause-text c =
    let old : List ℕ = c.args.into.now.items in
    let now : List ℕ = c.put_each.new.into.items in
    let new : List ℕ = c.put_each-2.new.into.items in
    let head : List ℕ = head_text c.args.report.now.pid.0 c.args.report.now.name in
    let events : List ℕ = flat_map event_text c.args.report.now.events in
    let left : List ℕ = flat_map left_text c.args.report.now.left in
    let queued : List ℕ = flat_map queued_text c.args.report.now.queued in
    put_behind c.put_each-2.result old now new ((head ++ events) ++ left) queued (head ++ events ++ left ++ queued)
    (c.in_ok-put_each.ensures.text.0
    ∙ ap (λ (ls : List Left). c.put_past.new.into.items ++ flat_map left_text ls) c.as_slice.ensures
    ∙ ap (λ (before : List ℕ). before ++ left) c.in_ok-put_past.ensures.text.0
    ∙ append_assoc old (head ++ events) left)
    (subst (λ (ss : List Signal). IsPut now new (flat_map queued_text ss) c.put_each-2.result) c.as_slice-2.ensures c.put_each-2.ensures.text)
    (simp append_assoc)
