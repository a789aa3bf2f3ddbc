-- A record's lines: what was read up to a line that can't stand is the begin of a record, and with that line it is the begin of none.
use Rattle.std.proofs.Common.{◌≡◌, ℕ, true, List, [], ◌++◌, refl, sym, ap, ◌∙◌, inl, inr, ◌⊎◌, append_assoc}
use Rattle.std.specs.Prelude.{codes, ◌==◌}
use Rattle.std.specs.List.{flat_map}
use Rattle.std.proofs.lemmas.List.{append-nil}
use Rattle.sig_kinds.specs.declared.signal.Signal.{Signal}
use Rattle.sig_model.specs.declared.event.Event.{Event}
use Rattle.sig_model.specs.declared.state.State.TheVariants as state
use Rattle.sig_record.specs.declared.report.Left.{Left}
use Rattle.sig_record.specs.declared.report.Report.{Report}
use Rattle.sig_record.specs.FaultLine.{AreWhole}
use Rattle.sig_record.specs.Phrases.{IsNarrow, phrase_text}
use Rattle.sig_record.specs.EventRows.{state_phrase}
use Rattle.sig_record.specs.Readers.{joined}
use Rattle.sig_record.specs.LineReaders.{one_line, then_lines}
use Rattle.sig_record.specs.RecordText.{event_text, left_text, queued_text, state_text, head_text, report_text}
use Rattle.sig_record.specs.RecordFronts.{is_process_name, begins_by_digit, begins_by, event_front, left_front, queued_front, head_front, events_front, lefts_front, all_queued_front, parts_front, report_of_parts, report_front}
use Rattle.sig_record.specs.RecordLines.{event_lines, left_lines, queued_lines, parts_lines, report_lines}
use Rattle.sig_record.proofs.ManyLaws.{Fits}
use Rattle.sig_record.proofs.LineLaws.{IsReadableEvent, IsReadableLeft, IsReadableState, QueuedBehind, event_law, event_begins, left_law, left_begins, queued_behind_law, queued_begins, state_law, head_law}
use Rattle.sig_record.proofs.RecordLaws.{ReportAt, parts_at}
use Rattle.sig_record.proofs.CleanLines.{event_line, left_line, queued_line, state_line, head_line}
use Rattle.sig_record.proofs.FirstLines.{digit_by_first_line, text_by_first_line}
use Rattle.sig_record.proofs.LinesLaws.{LinesLaw, Nothing, one_law, then_law, made_law}
use Rattle.sig_record.proofs.ManyLines.{many_lines_law}

-- ---- lists of lines

-- the texts of such items
abbrev AreTexts : {X : Type 0} → (X → List ℕ) → (List X → X → Type 0) → List ℕ → Type 0
AreTexts {X} text ok before = (xs : List X) × Fits ok [] xs × (flat_map text xs ≡ before)

texts_before : {X : Type 0} (text : X → List ℕ) (ok : List X → X → Type 0) (xs : List X) (s : List ℕ) → Fits ok [] xs → Nothing s → AreTexts text ok (flat_map text xs ++ s)
texts_before text ok xs s fits none = (xs, fits, sym (append-nil (flat_map text xs)) ∙ ap (λ (t : List ℕ). flat_map text xs ++ t) (sym none))

abbrev EventOk : List Event → Event → Type 0
EventOk before e = IsReadableEvent e

abbrev LeftOk : List Left → Left → Type 0
LeftOk before l = IsReadableLeft l

events_lines : LinesLaw (flat_map event_text) (Fits EventOk []) events_front (AreTexts event_text EventOk) event_lines
events_lines =
    many_lines_law begins_by_digit (λ _. one_line event_front) (λ _. event_front) event_text EventOk (λ _. Nothing) (AreTexts event_text EventOk) (λ items. one_law event_law event_line) (λ items. event_law) refl (λ items e rest k. event_begins e rest k) digit_by_first_line (texts_before event_text EventOk)

lefts_lines : LinesLaw (flat_map left_text) (Fits LeftOk []) lefts_front (AreTexts left_text LeftOk) left_lines
lefts_lines =
    many_lines_law (begins_by (codes "left ")) (λ _. one_line left_front) (λ _. left_front) left_text LeftOk (λ _. Nothing) (AreTexts left_text LeftOk) (λ items. one_law left_law left_line) (λ items. left_law) refl (λ items l rest k. left_begins l rest) (text_by_first_line (codes "left ") refl) (texts_before left_text LeftOk)

signals_lines : (pid : ℕ) → LinesLaw (flat_map queued_text) (Fits (QueuedBehind pid) []) (all_queued_front pid) (AreTexts queued_text (QueuedBehind pid)) (queued_lines pid)
signals_lines pid =
    many_lines_law (begins_by (codes "queued ")) (λ before. one_line (queued_front pid before)) (queued_front pid) queued_text (QueuedBehind pid) (λ _. Nothing) (AreTexts queued_text (QueuedBehind pid))
    (λ items. one_law (queued_behind_law pid items) (λ s k. queued_line s k.0.0)) (queued_behind_law pid) refl (λ items s rest k. queued_begins s rest)
    (text_by_first_line (codes "queued ") refl) (texts_before queued_text (QueuedBehind pid))

-- ---- a process's part

abbrev HeadOk : ℕ → ℕ × List ℕ → Type 0
HeadOk pid x = (IsNarrow x.0 × (is_process_name x.1 ≡ true)) × ((x.0 == pid) ≡ true)

-- nothing, or the text of such a value
abbrev IsText : {X : Type 0} → (X → List ℕ) → (X → Type 0) → List ℕ → Type 0
IsText {X} text ok before = (before ≡ []) ⊎ ((x : X) × ok x × (text x ≡ before))

-- with no item behind it
with_none : {X Y : Type 0} (t : X → List ℕ) (P : X → Type 0) (text : Y → List ℕ) (ok : List Y → Y → Type 0) (s : List ℕ) → IsText t P s
    → IsText {X = X × List Y} (λ x. t x.0 ++ flat_map text x.1) (λ x. P x.0 × Fits ok [] x.1) s
with_none t P text ok s (inl e) = inl e
with_none t P text ok s (inr x) = inr ((x.0, []), (x.1, tt), append-nil (t x.0) ∙ x.2)

-- with the items behind it
with_items : {X Y : Type 0} (t : X → List ℕ) (P : X → Type 0) (text : Y → List ℕ) (ok : List Y → Y → Type 0) (x : X) (s : List ℕ) → P x → AreTexts text ok s
    → IsText {X = X × List Y} (λ x. t x.0 ++ flat_map text x.1) (λ x. P x.0 × Fits ok [] x.1) (t x ++ s)
with_items t P text ok x s k ys = inr ((x, ys.0), (k, ys.1), ap (λ (e : List ℕ). t x ++ e) ys.2)

abbrev head_text_of : ℕ × List ℕ → List ℕ
head_text_of x = head_text x.0 x.1

abbrev Headed : Type 0
Headed = (ℕ × List ℕ) × List Event

abbrev headed_text : Headed → List ℕ
headed_text x = head_text_of x.0 ++ flat_map event_text x.1

abbrev HeadedOk : ℕ → Headed → Type 0
HeadedOk pid x = HeadOk pid x.0 × Fits EventOk [] x.1

headed_lines : (pid : ℕ) → LinesLaw headed_text (HeadedOk pid) (joined (head_front pid) events_front) (IsText headed_text (HeadedOk pid)) (then_lines (one_line (head_front pid)) event_lines)
headed_lines pid =
    then_law (one_law (head_law pid) (λ x k. head_line x k.0.0 k.0.1)) events_lines (λ s e. inl e) (with_items head_text_of (HeadOk pid) event_text EventOk)

abbrev lefted_text : Headed × List Left → List ℕ
lefted_text x = headed_text x.0 ++ flat_map left_text x.1

abbrev LeftedOk : ℕ → Headed × List Left → Type 0
LeftedOk pid x = HeadedOk pid x.0 × Fits LeftOk [] x.1

lefted_lines : (pid : ℕ) → LinesLaw lefted_text (LeftedOk pid) (joined (joined (head_front pid) events_front) lefts_front) (IsText lefted_text (LeftedOk pid))
    (then_lines (then_lines (one_line (head_front pid)) event_lines) left_lines)
lefted_lines pid = then_law (headed_lines pid) lefts_lines (with_none headed_text (HeadedOk pid) left_text LeftOk) (with_items headed_text (HeadedOk pid) left_text LeftOk)

abbrev open_text : (Headed × List Left) × List Signal → List ℕ
open_text x = lefted_text x.0 ++ flat_map queued_text x.1

abbrev OpenOk : ℕ → (Headed × List Left) × List Signal → Type 0
OpenOk pid x = LeftedOk pid x.0 × Fits (QueuedBehind pid) [] x.1

open_lines : (pid : ℕ) → LinesLaw open_text (OpenOk pid) (joined (joined (joined (head_front pid) events_front) lefts_front) (all_queued_front pid)) (IsText open_text (OpenOk pid))
    (then_lines (then_lines (then_lines (one_line (head_front pid)) event_lines) left_lines) (queued_lines pid))
open_lines pid =
    then_law (lefted_lines pid) (signals_lines pid) (with_none lefted_text (LeftedOk pid) queued_text (QueuedBehind pid)) (with_items lefted_text (LeftedOk pid) queued_text (QueuedBehind pid))

parts_law : (pid : ℕ) → LinesLaw (λ x. open_text x.0 ++ state_text x.1) (λ x. OpenOk pid x.0 × IsReadableState x.1) (parts_front pid (head_front pid)) (IsText open_text (OpenOk pid)) (parts_lines pid (one_line (head_front pid)))
parts_law pid =
    then_law (open_lines pid) (one_law state_law state_line) (λ s e. e) (λ x s k e. inr (x, k, sym (append-nil (open_text x)) ∙ ap (λ (t : List ℕ). open_text x ++ t) (sym e)))

-- nothing, or the begin of a process's part
abbrev pub BeginsReport : ℕ → List ℕ → Type 0
BeginsReport pid before = (before ≡ []) ⊎ ((r : Report) × (rest : List ℕ) × ReportAt pid r × (report_text r ≡ before ++ rest))

-- what was read of it is ended by a state
ended_report : (pid : ℕ) (s : List ℕ) → IsText open_text (OpenOk pid) s → BeginsReport pid s
unfolding report_text
ended_report pid s (inl e) = inl e
ended_report pid s (inr x) = inr (report_of_parts (x.0, state.Cut), state_text state.Cut, parts_at pid (x.0, state.Cut) (x.1, (tt, tt)), ap (λ (t : List ℕ). t ++ state_text state.Cut) x.2)

whole_report : (r : Report) → AreWhole (report_text r)
unfolding report_text
whole_report r =
    let parts : List ℕ = head_text r.pid.0 r.name ++ flat_map event_text r.events ++ flat_map left_text r.left ++ flat_map queued_text r.queued in
    let standing : List ℕ = phrase_text (state_phrase r.state) in
    inr (parts ++ standing, sym (append_assoc parts standing (codes "\n")))

pub report_lines_law : (pid : ℕ) → LinesLaw report_text (ReportAt pid) (report_front pid) (BeginsReport pid) (report_lines pid)
unfolding report_text report_front report_lines
report_lines_law pid = made_law (parts_law pid) report_of_parts report_text (ReportAt pid) (λ x. refl) (parts_at pid) (λ r k. whole_report r) (ended_report pid)
