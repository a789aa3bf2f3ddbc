-- A queued signal that has the stamp of the event that sent it is drawn where that event is shown.
use Rattle.std.proofs.Common.{◌≡◌, ℕ, ◌+◌, ◌-◌, ◌==◌, Bool, true, false, cond, List, [], Option, None, Some, refl, sym, ap, subst, ◌∙◌, arith}
use Rattle.std.specs.Prelude.{All, IfSome, is_some, slice_get}
use Rattle.std.proofs.lemmas.Bool.{false≢true}
use Rattle.std.proofs.lemmas.Bool.Decides.{nat_tests}
use Rattle.std.proofs.lemmas.List.Elements.{filter_passes}
use Rattle.sig_kinds.specs.declared.signal.Signal.{Signal}
use Rattle.sig_model.specs.declared.event.Event.{Event}
use Rattle.sig_model.proofs.Lookups.{at_place}
use Rattle.sig_record.specs.declared.report.Report.{Report}
use Rattle.sig_record.specs.declared.merging.MergedAt.{MergedAt}
use Rattle.sig_record.specs.Merging.{event_at, stamp_in}
use Rattle.sig_chart.specs.declared.window.Window.{Window}
use Rattle.sig_chart.specs.Finding.{event_of, sent_by, row_of}
use Rattle.sig_chart.specs.Shown.{is_within, is_shown}
use Rattle.sig_chart.specs.Drawn.{AreShown}
use Rattle.sig_chart.specs.Shapes.{Ground, stub_from, stub_in, stub_of}
use Rattle.sig_chart.specs.Laid.{HasItsStamp}
use Rattle.sig_chart.proofs.BeginLemmas.{IsRowOf, row_is}
use Rattle.sig_chart.proofs.ThereLemmas.{shown_there}

-- the event at a place, by its number
told_at : (reports : List Report) (m : MergedAt) (n : ℕ) → m.place + 1 ≡ n → event_of reports m.pid.0 n ≡ event_at reports m
told_at reports m n e =
    let there : (n == 0) ≡ false = grind (arith, nat_tests) in
    let same : n - 1 ≡ m.place = omega (arith, e) in
    ap (λ (b : Bool). cond b None (event_at reports (record { pid = m.pid; place = n - 1 }))) there
    ∙ ap (λ (place : ℕ). event_at reports (record { pid = m.pid; place = place })) same

-- what holds of each item holds of the one at this place
of_item : {X : Type 0} (P : X → Type 0) (xs : List X) (i : ℕ) (x : X) → slice_get xs i ≡ Some x → All P xs → P x
of_item P xs i x at all = subst (λ o. IfSome o P) at (at_place P xs i all)

module _ (w : Window) (g : Ground) (s : Signal) (shown : AreShown g.reports w g.shown) (stamp : HasItsStamp g s) where
  abbrev sent : ℕ
  sent = sent_by g.origins s.from.0 s.to.0 s.number

  by_event : (m : MergedAt) → m.pid.0 ≡ s.from.0 → m.place + 1 ≡ sent → (o : Option Event) → event_at g.reports m ≡ o → is_some o ≡ true →
      is_within w (stamp_in o) ≡ true → is_within w s.stamp ≡ true
  by_event m process number None is there passes = absurd cc
  by_event m process number (Some e) is there passes =
      let told : event_of g.reports s.from.0 sent ≡ Some e = subst (λ (p : ℕ). event_of g.reports p sent ≡ Some e) process (told_at g.reports m sent number ∙ is) in
      subst (λ (n : ℕ). is_within w n ≡ true) (stamp e told) passes

  -- a signal whose sending has a row is of the window
  within : (row : ℕ) → row_of 0 g.shown s.from.0 sent ≡ Some row → is_within w s.stamp ≡ true
  within row e =
      let r : IsRowOf 0 g.shown s.from.0 sent row = row_is 0 g.shown s.from.0 sent row e in
      let same : row ≡ row - 0 = omega arith in
      let at : slice_get g.shown row ≡ Some r.m = ap (λ (k : ℕ). slice_get g.shown k) same ∙ r.at in
      let all : All (λ (m : MergedAt). is_shown g.reports w m ≡ true) g.shown =
      subst (All (λ (m : MergedAt). is_shown g.reports w m ≡ true)) (sym shown.those) (filter_passes (is_shown g.reports w) shown.order) in
      by_event r.m r.process r.number (event_at g.reports r.m) refl
      (of_item (λ (m : MergedAt). is_some (event_at g.reports m) ≡ true) g.shown row r.m at (shown_there g.reports w g.shown shown))
      (of_item (λ (m : MergedAt). is_shown g.reports w m ≡ true) g.shown row r.m at all)

  no_stub : is_within w s.stamp ≡ false → (o : Option ℕ) → row_of 0 g.shown s.from.0 sent ≡ o → stub_from s o ≡ []
  no_stub out None e = refl
  no_stub out (Some row) e = absurd (false≢true (sym out ∙ within row e))

  by_stamp : (b : Bool) → is_within w s.stamp ≡ b → cond b (stub_of g.origins g.shown s) [] ≡ stub_of g.origins g.shown s
  by_stamp true is = refl
  by_stamp false is = sym (no_stub is (row_of 0 g.shown s.from.0 sent) refl)

  pub drawn : stub_in w g.origins g.shown s ≡ stub_of g.origins g.shown s
  drawn = by_stamp (is_within w s.stamp) refl
