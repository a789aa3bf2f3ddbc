-- The record has each event that is shown.
use Rattle.std.proofs.Common.{◌≡◌, ℕ, zero, suc, ◌+◌, ◌<◌, ◌≤◌, ◌==◌, ◌&&◌, Bool, true, false, cond, List, [], ◌∷◌, length, get_or, refl, sym, ap, subst, ◌∙◌, arith}
use Rattle.std.specs.Prelude.{is_some}
use Rattle.std.specs.List.{count_by}
use Rattle.std.proofs.lemmas.Bool.Decides.{nat_tests}
use Rattle.std.proofs.lemmas.List.Sums.{sum_by-cons}
use Rattle.std.proofs.lemmas.List.Elements.{All-filter}
use Rattle.sig_record.specs.declared.report.Report.{Report}
use Rattle.sig_record.specs.declared.merging.MergedAt.{MergedAt}
use Rattle.sig_record.specs.Merging.{IsMerged, is_same, event_at}
use Rattle.sig_chart.specs.declared.window.Window.{Window}
use Rattle.sig_chart.specs.Shown.{is_shown}
use Rattle.sig_chart.specs.Drawn.{AreShown}
use Rattle.sig_chart.proofs.MarkLemmas.{AreThere}

same_number : (n : ℕ) → (n == n) ≡ true
same_number n = grind (arith, nat_tests)

same_itself : (a : MergedAt) → is_same a a ≡ true
same_itself a = ap (λ (b : Bool). b && (a.place == a.place)) (same_number a.pid.0) ∙ same_number a.place

counted : (order : List MergedAt) (k : ℕ) (d : MergedAt) → k < length order → 1 ≤ count_by (is_same (get_or order k d)) order
counted [] k d lt = absurd (omega arith)
counted (x ∷ xs) zero d lt =
    let step : count_by (is_same x) (x ∷ xs) ≡ cond (is_same x x) 1 0 + count_by (is_same x) xs = sum_by-cons (λ (y : MergedAt). cond (is_same x y) 1 0) x xs in
    let first : cond {A = ℕ} (is_same x x) 1 0 ≡ 1 = ap (λ (b : Bool). cond {A = ℕ} b 1 0) (same_itself x) in
    omega arith
counted (x ∷ xs) (suc k) d lt =
    let a : MergedAt = get_or xs k d in
    let step : count_by (is_same a) (x ∷ xs) ≡ cond (is_same a x) 1 0 + count_by (is_same a) xs = sum_by-cons (λ (y : MergedAt). cond (is_same a y) 1 0) x xs in
    let rest : 1 ≤ count_by (is_same a) xs = counted xs k d (omega arith) in
    omega arith

is_there : (b : Bool) (n : ℕ) → n ≡ cond b 1 0 → 1 ≤ n → b ≡ true
is_there true n e h = refl
is_there false n e h = absurd (omega (arith, e, h))

pub there : (reports : List Report) (order : List MergedAt) → IsMerged reports order → AreThere reports order
there reports order h k d lt = is_there (is_some (event_at reports (get_or order k d))) (count_by (is_same (get_or order k d)) order) (h.once (get_or order k d)) (counted order k d lt)

pub shown_there : (reports : List Report) (w : Window) (shown : List MergedAt) → AreShown reports w shown → AreThere reports shown
shown_there reports w shown h =
    subst (AreThere reports) (sym h.those) (All-filter (is_shown reports w) (λ (m : MergedAt). is_some (event_at reports m) ≡ true) h.order (there reports h.order h.merged))
