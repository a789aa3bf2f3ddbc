-- What is laid row by row.
use Rattle.std.proofs.Common.{◌≡◌, ℕ, suc, ◌+◌, ◌<◌, List, [], ◌∷◌, ◌++◌, drop, length, get_or, All, Some, refl, sym, ap, subst, ◌∙◌, append_assoc, drop-cons, arith}
use Rattle.std.specs.Prelude.{slice_get}
use Rattle.std.proofs.lemmas.List.Elements.{All-nil, All-append}
use Rattle.sig_record.specs.declared.merging.MergedAt.{MergedAt}
use Rattle.sig_chart.specs.Shapes.{by_rows}

-- the event of this row, and those behind it
row_front : (shown : List MergedAt) (row : ℕ) (d : MergedAt) → row < length shown → drop row shown ≡ get_or shown row d ∷ drop (row + 1) shown
row_front shown row d lt =
    let more : suc row ≡ row + 1 = omega arith in
    drop-cons shown row d lt ∙ ap (λ (n : ℕ). get_or shown row d ∷ drop n shown) more

-- what was laid so far with what this row gives, and what the rows behind it give
pub row_more : {X : Type 0} (at : ℕ → MergedAt → List X) (shown : List MergedAt) (row : ℕ) (d : MergedAt) (done now : List X) → row < length shown →
    now ≡ done ++ at row (get_or shown row d) → now ++ by_rows at (row + 1) (drop (row + 1) shown) ≡ done ++ by_rows at row (drop row shown)
row_more {X} at shown row d done now lt put =
    ap (λ (t : List X). t ++ by_rows at (row + 1) (drop (row + 1) shown)) put
    ∙ append_assoc done (at row (get_or shown row d)) (by_rows at (row + 1) (drop (row + 1) shown))
    ∙ ap (λ (ms : List MergedAt). done ++ by_rows at row ms) (sym (row_front shown row d lt))

-- what holds of all that each event gives in its row holds of all together
from_row : {X : Type 0} (at : ℕ → MergedAt → List X) (P : X → Type 0) (first : ℕ) (ms : List MergedAt) →
    ((row place : ℕ) (m : MergedAt) → row ≡ first + place → slice_get ms place ≡ Some m → All P (at row m)) → All P (by_rows at first ms)
from_row at P first [] each = All-nil P
from_row at P first (m ∷ ms) each =
    All-append P (at first m) (by_rows at (first + 1) ms) (each first 0 m (omega arith) refl)
    (from_row at P (first + 1) ms (λ row place x e h. each row (suc place) x (omega (arith, e)) h))

pub all_rows : {X : Type 0} (at : ℕ → MergedAt → List X) (P : X → Type 0) (shown : List MergedAt) →
    ((row : ℕ) (m : MergedAt) → slice_get shown row ≡ Some m → All P (at row m)) → All P (by_rows at 0 shown)
all_rows at P shown each =
    from_row at P 0 shown (λ row place m e h. let same : place ≡ row = omega (arith, e) in each row m (subst (λ (n : ℕ). slice_get shown n ≡ Some m) same h))
