-- For each mark of a handling there is one arrow, and the event where it ends handled its signal.
use Rattle.std.proofs.Common.{◌≡◌, ℕ, ◌+◌, List, [], ◌∷◌, ◌++◌, map, Option, Some, None, refl, ap, cond}
use Rattle.std.specs.Prelude.{All, slice_get}
use Rattle.std.specs.List.{filter}
use Rattle.std.proofs.lemmas.List.Elements.{All-nil, All-cons}
use Rattle.sig_model.specs.declared.event.Did.{Did}
use Rattle.sig_model.specs.declared.event.Did.TheVariants.{Exec, From}
use Rattle.sig_model.specs.declared.event.Event.{Event}
use Rattle.sig_record.specs.declared.merging.MergedAt.{MergedAt}
use Rattle.sig_record.specs.Merging.{event_at}
use Rattle.sig_svg.specs.declared.shape.Mark.{Mark}
use Rattle.sig_svg.specs.declared.shape.Arrow.{Arrow}
use Rattle.sig_chart.specs.Finding.{sent_by}
use Rattle.sig_chart.specs.Shapes.{Ground, is_handling, mark, mark_of, mark_at, arrow_from, arrow_by, arrow_of, arrow_at, by_rows}
use Rattle.sig_chart.specs.Laid.{spot_of, end_of, EndsAtHandling}
use Rattle.sig_chart.proofs.RowLemmas.{all_rows}

abbrev spots : List Mark → List (ℕ × ℕ)
spots marks = map spot_of (filter (λ (m : Mark). m.handled) marks)

abbrev ends : List Arrow → List (ℕ × ℕ)
ends arrows = map end_of arrows

by_did : (g : Ground) (row pid : ℕ) (e : Event) (d : Did) (arrows : List Arrow) (marks : List Mark) → ends arrows ≡ spots marks →
    ends (arrow_by g row pid e d ++ arrows) ≡ map spot_of (cond (is_handling d) (mark row pid e ∷ filter (λ (m : Mark). m.handled) marks) (filter (λ (m : Mark). m.handled) marks))
by_did g row pid e (Exec place) arrows marks h = h
by_did g row pid e (From sender number) arrows marks h = ap (λ (t : List (ℕ × ℕ)). (pid, row) ∷ t) h

by_event : (g : Ground) (row pid : ℕ) (o : Option Event) (arrows : List Arrow) (marks : List Mark) → ends arrows ≡ spots marks →
    ends (arrow_of g row pid o ++ arrows) ≡ spots (mark_of row pid o ++ marks)
by_event g row pid None arrows marks h = h
by_event g row pid (Some e) arrows marks h = by_did g row pid e e.did arrows marks h

pub ends_at_marks : (g : Ground) (row : ℕ) (ms : List MergedAt) → ends (by_rows (arrow_at g) row ms) ≡ spots (by_rows (mark_at g.reports) row ms)
ends_at_marks g row [] = refl
ends_at_marks g row (m ∷ ms) =
    by_event g row m.pid.0 (event_at g.reports m) (by_rows (arrow_at g) (row + 1) ms) (by_rows (mark_at g.reports) (row + 1) ms) (ends_at_marks g (row + 1) ms)

-- ---- the event where an arrow ends

module _ (g : Ground) (row : ℕ) (m : MergedAt) (at : slice_get g.shown row ≡ Some m) where
  handled_by : (e : Event) → event_at g.reports m ≡ Some e → (d : Did) → e.did ≡ d → All (EndsAtHandling g) (arrow_by g row m.pid.0 e d)
  handled_by e there (Exec place) is = All-nil (EndsAtHandling g)
  handled_by e there (From sender number) is =
      All-cons (EndsAtHandling g) (arrow_from g row m.pid.0 e sender.0 number (sent_by g.origins sender.0 m.pid.0 number)) [] (m, e, at, refl, there, is)
      (All-nil (EndsAtHandling g))

  arrow_is : (o : Option Event) → event_at g.reports m ≡ o → All (EndsAtHandling g) (arrow_of g row m.pid.0 o)
  arrow_is None there = All-nil (EndsAtHandling g)
  arrow_is (Some e) there = handled_by e there e.did refl

pub end_at_handlings : (g : Ground) → All (EndsAtHandling g) (by_rows (arrow_at g) 0 g.shown)
end_at_handlings g = all_rows (arrow_at g) (EndsAtHandling g) g.shown (λ row m at. arrow_is g row m at (event_at g.reports m) refl)
