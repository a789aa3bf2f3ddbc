-- A queued signal of a run's record is drawn from the event that sent it.
use Rattle.std.proofs.Common.{◌≡◌, ℕ, List, All, Option, Some, refl, sym, ap, ◌∙◌, subst}
use Rattle.std.specs.Option.{option_map_or}
use Rattle.std.proofs.lemmas.List.Elements.{All-weaker}
use Rattle.sig_kinds.specs.declared.signal.Signal.{Signal}
use Rattle.sig_program.specs.Scripts.{Program}
use Rattle.sig_model.specs.declared.event.Event.{Event}
use Rattle.sig_model.specs.declared.origin.Origin.{Origin}
use Rattle.sig_record.specs.declared.report.Report.{Report}
use Rattle.sig_record.specs.declared.merging.MergedAt.{MergedAt}
use Rattle.sig_order.specs.Happening.{event_of, IsTraced, IsTold, QueuedAreTold}
use Rattle.sig_chart.specs.declared.window.Window.{Window}
use Rattle.sig_chart.specs.Finding.{sent_by, row_of}
use Rattle.sig_chart.specs.Finding.{event_of as numbered_of}
use Rattle.sig_chart.specs.Drawn.{AreShown}
use Rattle.sig_chart.specs.Shapes.{Ground, ground, stub_from}
use Rattle.sig_chart.specs.Laid.{HasItsStamp}
use Rattle.sig_chart.proofs.BeginLemmas.{origin_with}
use Rattle.sig_chart.proofs.AboveLemmas.{found}
use Rattle.sig_chart.proofs.QueuedLemmas.{drawn}
use Rattle.sig_view.specs.Charts.{IsDrawnFromSender}

module _ (script : Program) (reports : List Report) (origins : List Origin) (traced : IsTraced reports origins) (w : Window) (shown : List MergedAt) (are : AreShown reports w shown) where
  abbrev g : Ground
  g = ground script reports origins shown

  module _ (x : Signal) (told : IsTold reports origins x) where
    abbrev sent : ℕ
    sent = sent_by origins x.from.0 x.to.0 x.number

    its : sent ≡ told.0.event
    its =
        traced.one (origin_with x.from.0 x.to.0 x.number sent) (origin_with x.from.0 x.to.0 x.number told.0.event)
        (found x.from.0 x.to.0 x.number told.0.event origins told.4) told.4 refl refl refl

    stamp : HasItsStamp g x
    stamp e there =
        let of_sender : event_of reports told.0 ≡ Some e =
        subst (λ (n : ℕ). numbered_of reports told.0.pid n ≡ Some e) its (subst (λ (p : ℕ). numbered_of reports p sent ≡ Some e) (sym told.1) there) in
        sym (ap (λ (o : Option Event). option_map_or (λ (z : Event). z.stamp) o 0) of_sender) ∙ told.3

    from_sender : IsDrawnFromSender reports origins w shown x
    from_sender = (
      told.0,
      told.1,
      told.2,
      told.4,
      drawn w g x are stamp ∙ ap (λ (n : ℕ). stub_from x (row_of 0 shown x.from.0 n)) its
          ∙ ap (λ (p : ℕ). stub_from x (row_of 0 shown p told.0.event)) (sym told.1),
    )

  pub all_from_senders : QueuedAreTold reports origins → All (λ (r : Report). All (IsDrawnFromSender reports origins w shown) r.queued) reports
  all_from_senders told =
      All-weaker (λ (r : Report). All (IsTold reports origins) r.queued) (λ (r : Report). All (IsDrawnFromSender reports origins w shown) r.queued)
      (λ r h. All-weaker (IsTold reports origins) (IsDrawnFromSender reports origins w shown) from_sender r.queued h) reports told
