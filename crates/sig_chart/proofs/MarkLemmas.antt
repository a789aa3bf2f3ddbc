-- Marks stand apart, each event that is shown has one, and each is that of the event in its row.
use Rattle.std.proofs.Common.{◌≡◌, ℕ, suc, ◌+◌, ◌≤◌, List, [], ◌∷◌, ◌++◌, length, Option, Some, None, refl, ap, true, get_or, arith}
use Rattle.std.specs.Prelude.{All, is_some, slice_get}
use Rattle.std.specs.List.{AllPairs}
use Rattle.std.proofs.lemmas.List.Elements.{All-nil, All-cons}
use Rattle.std.proofs.lemmas.List.Kept.{AllPairs-cons}
use Rattle.sig_model.specs.declared.event.Event.{Event}
use Rattle.sig_record.specs.declared.report.Report.{Report}
use Rattle.sig_record.specs.declared.merging.MergedAt.{MergedAt}
use Rattle.sig_record.specs.Merging.{event_at}
use Rattle.sig_svg.specs.declared.shape.Mark.{Mark}
use Rattle.sig_chart.specs.Shapes.{Ground, mark, mark_of, mark_at, by_rows}
use Rattle.sig_chart.specs.Laid.{IsAbove, IsOfItsRow}
use Rattle.sig_chart.proofs.RowLemmas.{all_rows}

-- each of the marks stands at this row or below it
abbrev AreFrom : ℕ → List Mark → Type 0
AreFrom row marks = All (λ (m : Mark). row ≤ m.row) marks

lower : (row : ℕ) (marks : List Mark) → AreFrom (row + 1) marks → AreFrom row marks
lower row marks h k d lt = let below : row + 1 ≤ (get_or marks k d).row = h k d lt in omega arith

from_of : (row pid : ℕ) (o : Option Event) (rest : List Mark) → AreFrom (row + 1) rest → AreFrom row (mark_of row pid o ++ rest)
from_of row pid None rest h = lower row rest h
from_of row pid (Some e) rest h = All-cons (λ (m : Mark). row ≤ m.row) (mark row pid e) rest (omega arith) (lower row rest h)

from_row : (reports : List Report) (row : ℕ) (ms : List MergedAt) → AreFrom row (by_rows (mark_at reports) row ms)
from_row reports row [] = λ k d lt. absurd (omega arith)
from_row reports row (m ∷ ms) = from_of row m.pid.0 (event_at reports m) (by_rows (mark_at reports) (row + 1) ms) (from_row reports (row + 1) ms)

apart_of : (row pid : ℕ) (o : Option Event) (rest : List Mark) → AreFrom (row + 1) rest → AllPairs IsAbove rest → AllPairs IsAbove (mark_of row pid o ++ rest)
apart_of row pid None rest h k = k
apart_of row pid (Some e) rest h k =
    AllPairs-cons IsAbove (mark row pid e) rest (λ i d lt. let below : row + 1 ≤ (get_or rest i d).row = h i d lt in omega arith) k

pub apart : (reports : List Report) (row : ℕ) (ms : List MergedAt) → AllPairs IsAbove (by_rows (mark_at reports) row ms)
apart reports row [] = λ i j d lt within. absurd (omega arith)
apart reports row (m ∷ ms) =
    apart_of row m.pid.0 (event_at reports m) (by_rows (mark_at reports) (row + 1) ms) (from_row reports (row + 1) ms) (apart reports (row + 1) ms)

-- ---- one for each event that is shown

one_of : (row pid : ℕ) (o : Option Event) (rest : List Mark) (n : ℕ) → is_some o ≡ true → length rest ≡ n → length (mark_of row pid o ++ rest) ≡ suc n
one_of row pid None rest n h k = absurd cc
one_of row pid (Some e) rest n h k = ap suc k

-- each of these is there
abbrev pub AreThere : List Report → List MergedAt → Type 0
AreThere reports ms = All (λ (m : MergedAt). is_some (event_at reports m) ≡ true) ms

pub one_each : (reports : List Report) (row : ℕ) (ms : List MergedAt) → AreThere reports ms → length (by_rows (mark_at reports) row ms) ≡ length ms
one_each reports row [] h = refl
one_each reports row (m ∷ ms) h =
    one_of row m.pid.0 (event_at reports m) (by_rows (mark_at reports) (row + 1) ms) (length ms) (h 0 m (omega arith))
    (one_each reports (row + 1) ms (λ k d lt. h (suc k) d (omega arith)))

-- ---- each is that of the event in its row

mark_is : (g : Ground) (row : ℕ) (m : MergedAt) → slice_get g.shown row ≡ Some m → (o : Option Event) → event_at g.reports m ≡ o →
    All (IsOfItsRow g) (mark_of row m.pid.0 o)
mark_is g row m at None there = All-nil (IsOfItsRow g)
mark_is g row m at (Some e) there = All-cons (IsOfItsRow g) (mark row m.pid.0 e) [] (m, e, at, there, refl) (All-nil (IsOfItsRow g))

pub marks_of_rows : (g : Ground) → All (IsOfItsRow g) (by_rows (mark_at g.reports) 0 g.shown)
marks_of_rows g = all_rows (mark_at g.reports) (IsOfItsRow g) g.shown (λ row m at. mark_is g row m at (event_at g.reports m) refl)
