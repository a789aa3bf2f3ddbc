-- For each event the counts of the events of each process that are at it or before it, with a row of counts for those events alone that
-- handled a signal of another process (this project's own; vectors of counts are Fidge's and Mattern's).
use Rattle.std.specs.Prelude.{◌≡◌, ℕ, ◌+◌, ◌-◌, ◌<◌, ◌≤◌, ◌==◌, ◌⊎◌, ◌↔◌, max, nat_lt, true, List, [], ◌∷◌, ◌++◌, length, Option, Some, None, get_or, slice_set, if◌then◌else◌}
use Rattle.sig_model.specs.declared.event.Did.{Did}
use Rattle.sig_model.specs.declared.origin.Origin.{Origin}
use Rattle.sig_record.specs.declared.report.Report.{Report}
use Rattle.sig_record.specs.declared.merging.MergedAt.{MergedAt}
use Rattle.sig_order.specs.declared.at.At.{At}
use Rattle.sig_order.specs.declared.counts.Rows.{Rows}
use Rattle.sig_order.specs.declared.senders.SignalKey.{SignalKey}
use Rattle.sig_order.specs.Senders.{sender_of}
use Rattle.sig_order.specs.Happening.{is_there, stamp_of, HappenedBefore}

-- no event, and no row
abbrev pub no_rows : Rows
no_rows = record { learned = []; known = [] }

-- the rows of a process
abbrev pub rows_of : List Rows → ℕ → Rows
rows_of rows pid = get_or rows pid no_rows

-- how many of its events have counts
abbrev pub counted_of : List Rows → ℕ → ℕ
counted_of rows pid = length (rows_of rows pid).known

-- of so many rows the last one, none where there are none
abbrev pub last_row : List (List ℕ) → ℕ → List ℕ
last_row learned n = if n == 0 then [] else get_or learned (n - 1) []

-- the row by which the event with this number goes: the last one that its process had then
abbrev pub row_at : Rows → ℕ → List ℕ
row_at r event = if event == 0 then [] else last_row r.learned (get_or r.known (event - 1) 0)

-- How many events of q are at the event a or before it. Of its own process these are all up to its own number.
abbrev pub count_at : List Rows → At → ℕ → ℕ
count_at rows a q =
    if nat_lt (counted_of rows a.pid) a.event then 0 else (if q == a.pid then a.event else get_or (row_at (rows_of rows a.pid) a.event) q 0)

-- the event has counts
abbrev pub IsDone : List Rows → At → Type 0
IsDone rows a = (0 < a.event) × (a.event ≤ counted_of rows a.pid)

-- the event before it in its process, no event where it is the first
abbrev pub last_of : At → At
last_of a = record { pid = a.pid; event = a.event - 1 }

-- the row of the event a, which handled a signal that the event `sender` sent: of each process the greater of two counts
pub record IsNewRow (rows : List Rows) (a sender : At) (row : List ℕ) : Type 0 where
  pub many : length row ≡ length rows
  pub counts : (q : ℕ) → q < length rows → get_or row q 0 ≡ max (count_at rows (last_of a) q) (count_at rows sender q)

-- what the event a learned: nothing where no event of another process sent a signal to it
abbrev pub IsLearned : List Rows → At → Option At → Option (List ℕ) → Type 0
IsLearned rows a None None = Unit {0}
IsLearned rows a None (Some row) = ⊥
IsLearned rows a (Some sender) None = ⊥
IsLearned rows a (Some sender) (Some row) = IsNewRow rows a sender row

-- one event more, which goes by the last row
abbrev pub noted : Rows → Rows
noted r = record r { known = r.known ++ length r.learned ∷ [] }

-- one event more, with a row of its own if there is one
abbrev pub with_event : Rows → Option (List ℕ) → Rows
with_event r None = noted r
with_event r (Some row) = noted (record r { learned = r.learned ++ row ∷ [] })

-- the rows with the counts of one event more, which may have handled a signal that the event `sender` of another process sent
abbrev pub AddsEvent : List Rows → At → Option At → List Rows → Type 0
AddsEvent old a sender new = (row : Option (List ℕ)) × IsLearned old a sender row × (new ≡ slice_set old a.pid (with_event (rows_of old a.pid) row))

-- the same of the event at a place, which did this
abbrev pub AddsCounts : List Rows → List (SignalKey × ℕ) → MergedAt → Did → List Rows → Type 0
AddsCounts old entries m did new = AddsEvent old (record { pid = m.pid.0; event = m.place + 1 }) (sender_of entries m.pid.0 did) new

-- Each event of the record has counts and no other, and they tell what happened before it. The stamp rises.
pub record IsCounted (reports : List Report) (origins : List Origin) (rows : List Rows) : Type 0 where
  pub done : (a : At) → is_there reports a ≡ true → IsDone rows a
  pub only : (a : At) → IsDone rows a → is_there reports a ≡ true
  pub counts : (e f : At) → is_there reports e ≡ true → is_there reports f ≡ true → (e.event ≤ count_at rows f e.pid) ↔ ((e ≡ f) ⊎ HappenedBefore reports origins e f)
  pub stamps : (e f : At) → HappenedBefore reports origins e f → stamp_of reports e < stamp_of reports f
