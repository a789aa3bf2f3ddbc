-- The laws of a process's part, and of a record.
use Rattle.std.proofs.Common.{◌≡◌, ℕ, zero, suc, ◌+◌, ◌&&◌, true, false, cond, List, [], ◌∷◌, ◌++◌, length, Option, Some, None, refl, sym, ap, subst, ◌∙◌, arith, length-append, add-zero, zero-add}
use Rattle.std.specs.Prelude.{◌≢◌, IfSome, All, codes, slice_get, ◌==◌}
use Rattle.std.specs.List.{flat_map}
use Rattle.std.proofs.lemmas.Bool.Decides.{Decides-eqb}
use Rattle.std.proofs.lemmas.List.{append-nil}
use Rattle.std.proofs.lemmas.List.Elements.{All-nil, All-cons, All-head, All-tail}
use Rattle.std.proofs.lemmas.Option.{none-some, same_Some}
use Rattle.sig_terms.specs.Tokens.{◌>>=◌}
use Rattle.sig_terms.specs.Words.{is_name, is_token}
use Rattle.sig_terms.proofs.Choices.{by_test, if_bind, both_true}
use Rattle.sig_kinds.specs.declared.signal.Signal.{Signal}
use Rattle.sig_model.specs.declared.event.Event.{Event}
use Rattle.sig_model.specs.declared.state.State.{State}
use Rattle.sig_model.specs.declared.state.State.TheVariants as state
use Rattle.sig_record.specs.declared.report.Left.{Left}
use Rattle.sig_record.specs.declared.report.Report.{Report}
use Rattle.sig_record.specs.Records.{IsReport}
use Rattle.sig_record.specs.RecordText.{left_text, queued_text, state_text, report_text, record_text}
use Rattle.sig_record.specs.Readers.{behind}
use Rattle.sig_record.specs.Phrases.{IsNarrow}
use Rattle.sig_record.specs.RecordFronts.{is_process_name, begins_by_digit, begins_by, report_of_parts, report_front, reports_front, record_in}
use Rattle.sig_record.specs.StoredRecord.{IsStoredEvent, IsStoredLeft, IsStoredSignal, IsStoredReport}
use Rattle.sig_record.specs.SizedRecord.{IsSizedEvent, IsSizedLeft, IsSizedSignal, IsSizedReport}
use Rattle.sig_record.specs.ReadableRecord.{IsReadableRecord}
use Rattle.sig_record.proofs.ReaderLaws.{IsReadAs, Law, Anything, joined_law, behind_law, read_as_law, stopped_law}
use Rattle.sig_record.proofs.TermFronts.{if_some_at}
use Rattle.sig_record.proofs.ManyLaws.{Fits, many_law, fits_all, all_fits}
use Rattle.sig_record.proofs.Stored.{both, one_of, other_of}
use Rattle.sig_record.proofs.LineLaws.{IsReadableEvent, IsReadableLeft, IsReadableSignal, IsReadableState, QueuedBehind, events_law, lefts_law, all_queued_law, readable_signals, signals_to, signals_rise, signals_fit, state_law, head_law}

-- ---- what follows the lines of one kind

abbrev NoEvent : List ℕ → Type 0
NoEvent rest = begins_by_digit rest ≡ false

abbrev NoLeft : List ℕ → Type 0
NoLeft rest = NoEvent rest × (begins_by (codes "left ") rest ≡ false)

abbrev NoQueued : List ℕ → Type 0
NoQueued rest = NoLeft rest × (begins_by (codes "queued ") rest ≡ false)

lefts_stop : (ls : List Left) (rest : List ℕ) → NoLeft rest → NoEvent (flat_map left_text ls ++ rest)
unfolding left_text
lefts_stop [] rest stop = stop.0
lefts_stop (l ∷ ls) rest stop = refl

signals_stop : (qs : List Signal) (rest : List ℕ) → NoQueued rest → NoLeft (flat_map queued_text qs ++ rest)
unfolding queued_text
signals_stop [] rest stop = stop.0
signals_stop (q ∷ qs) rest stop = (refl, refl)

state_stops : (s : State) (rest : List ℕ) → NoQueued (state_text s ++ rest)
state_stops (state.Ended reason) rest = ((refl, refl), refl)
state_stops state.Waiting rest = ((refl, refl), refl)
state_stops state.Cut rest = ((refl, refl), refl)

-- ---- a process's part

abbrev pub IsReadableReport : Report → Type 0
IsReadableReport r = IsStoredReport r × IsSizedReport r

abbrev pub ReportAt : ℕ → Report → Type 0
ReportAt pid r = IsReport pid r × IsReadableReport r

abbrev pub parts_of : Report → ((((ℕ × List ℕ) × List Event) × List Left) × List Signal) × State
parts_of r = (((((r.pid.0, r.name), r.events), r.left), r.queued), r.state)

abbrev pub PartsAt : ℕ → ((((ℕ × List ℕ) × List Event) × List Left) × List Signal) × State → Type 0
PartsAt pid x =
    ((((((IsNarrow x.0.0.0.0.0 × (is_process_name x.0.0.0.0.1 ≡ true)) × ((x.0.0.0.0.0 == pid) ≡ true)) × Fits (λ _ e. IsReadableEvent e) [] x.0.0.0.1) × Fits (λ _ l. IsReadableLeft l) [] x.0.0.1)
    × Fits (QueuedBehind pid) [] x.0.1) × IsReadableState x.1)

pub readable_parts : (pid : ℕ) (x : ((((ℕ × List ℕ) × List Event) × List Left) × List Signal) × State) → PartsAt pid x → IsReadableReport (report_of_parts x)
readable_parts pid x k =
    let name = both_true (is_name x.0.0.0.0.1) (is_token x.0.0.0.0.1) k.0.0.0.0.0.1 in
    let events : All IsReadableEvent x.0.0.0.1 = fits_all IsReadableEvent [] x.0.0.0.1 k.0.0.0.1 in
    let left : All IsReadableLeft x.0.0.1 = fits_all IsReadableLeft [] x.0.0.1 k.0.0.1 in
    let queued : All IsReadableSignal x.0.1 = readable_signals pid [] x.0.1 k.0.1 in (
      record {
        pid = k.0.0.0.0.0.0;
        name = name.1;
        events = one_of IsStoredEvent IsSizedEvent x.0.0.0.1 events;
        left = one_of IsStoredLeft IsSizedLeft x.0.0.1 left;
        queued = one_of IsStoredSignal IsSizedSignal x.0.1 queued;
        state = k.1.0;
      },
      record {
        name = name.0;
        events = other_of IsStoredEvent IsSizedEvent x.0.0.0.1 events;
        left = other_of IsStoredLeft IsSizedLeft x.0.0.1 left;
        queued = other_of IsStoredSignal IsSizedSignal x.0.1 queued;
        state = k.1.1;
      },
    )

pub parts_at : (pid : ℕ) (x : ((((ℕ × List ℕ) × List Event) × List Left) × List Signal) × State) → PartsAt pid x → ReportAt pid (report_of_parts x)
parts_at pid x k =
    let same : x.0.0.0.0.0 ≡ pid = (Decides-eqb x.0.0.0.0.0 pid).0 k.0.0.0.0.1 in
    (record { process = same; to = signals_to pid [] x.0.1 k.0.1; rising = signals_rise pid x.0.1 k.0.1 }, readable_parts pid x k)

pub report_law : (pid : ℕ) → Law Anything report_text (ReportAt pid) (report_front pid)
unfolding report_text report_front
report_law pid =
    read_as_law
    (joined_law (joined_law (joined_law (joined_law (head_law pid) events_law (λ es rest k stop. tt))
    (stopped_law {z = NoLeft} (λ rest stop. stop.1) lefts_law) (λ ls rest k stop. lefts_stop ls rest stop))
    (stopped_law {z = NoQueued} (λ rest stop. stop.1) (all_queued_law pid)) (λ qs rest k stop. signals_stop qs rest stop))
    state_law (λ s rest k stop. state_stops s rest))
    report_of_parts parts_of report_text (ReportAt pid) (λ r k. refl) (λ x. refl)
    (parts_at pid)
    (λ r k.
    let i = k.0 in
    let s = k.1.0 in
    let z = k.1.1 in
    let name : is_process_name r.name ≡ true = ap (λ b. b && is_token r.name) z.name ∙ s.name in
    let events : All IsReadableEvent r.events = both IsStoredEvent IsSizedEvent r.events s.events z.events in
    let left : All IsReadableLeft r.left = both IsStoredLeft IsSizedLeft r.left s.left z.left in
    let queued : All IsReadableSignal r.queued = both IsStoredSignal IsSizedSignal r.queued s.queued z.queued in
    (((((((s.pid, name), (Decides-eqb r.pid.0 pid).1 i.process), all_fits IsReadableEvent [] r.events events), all_fits IsReadableLeft [] r.left left), signals_fit pid r.queued queued i.to i.rising), (s.state, z.state))))

pub report_begins : (r : Report) (rest : List ℕ) → begins_by (codes "process ") (report_text r ++ rest) ≡ true
unfolding report_text
report_begins r rest = refl

-- ---- records

abbrev pub ReportBehind : List Report → Report → Type 0
ReportBehind before r = ReportAt (length before) r

pub reports_law : Law (λ rest. begins_by (codes "process ") rest ≡ false) (flat_map report_text) (Fits ReportBehind []) reports_front
reports_law = many_law (begins_by (codes "process ")) (λ before. report_front (length before)) report_text ReportBehind (λ before. report_law (length before)) refl (λ _ r rest k. report_begins r rest)

-- the reports from this pid on
abbrev RecordFrom : ℕ → List Report → Type 0
RecordFrom first rs = (i : ℕ) (r : Report) → slice_get rs i ≡ Some r → IsReport (first + i) r

later_pid : (before : List Report) (x : Report) (i : ℕ) → length (before ++ x ∷ []) + i ≡ length before + suc i
later_pid before x i = omega (arith, length-append before (x ∷ []))

record_of_fits : (before rs : List Report) → Fits ReportBehind before rs → RecordFrom (length before) rs
record_of_fits before [] fits i r e = absurd (none-some r e)
record_of_fits before (x ∷ rs) fits zero r e =
    subst (IsReport (length before + 0)) (same_Some x r e) (subst (λ (n : ℕ). IsReport n x) (sym (add-zero (length before))) fits.0.0)
record_of_fits before (x ∷ rs) fits (suc i) r e = subst (λ (n : ℕ). IsReport n r) (later_pid before x i) (record_of_fits (before ++ x ∷ []) rs fits.1 i r e)

readable_of_fits : (before rs : List Report) → Fits ReportBehind before rs → All IsReadableReport rs
readable_of_fits before [] fits = All-nil IsReadableReport
readable_of_fits before (x ∷ rs) fits = All-cons IsReadableReport x rs fits.0.1 (readable_of_fits (before ++ x ∷ []) rs fits.1)

fits_of_record : (before rs : List Report) → RecordFrom (length before) rs → All IsReadableReport rs → Fits ReportBehind before rs
fits_of_record before [] kept each = tt
fits_of_record before (x ∷ rs) kept each = (
  (subst (λ (n : ℕ). IsReport n x) (add-zero (length before)) (kept zero x refl), All-head IsReadableReport x rs each),
  fits_of_record (before ++ x ∷ []) rs (λ i r e. subst (λ (n : ℕ). IsReport n r) (sym (later_pid before x i)) (kept (suc i) r e)) (All-tail IsReadableReport x rs each),
)

pub from_zero : (rs : List Report) → Fits ReportBehind [] rs → IsReadableRecord rs
from_zero rs fits =
    let each : All IsReadableReport rs = readable_of_fits [] rs fits in
    record {
      kept = λ i r e. subst (λ (n : ℕ). IsReport n r) (zero-add i) (record_of_fits [] rs fits i r e);
      stored = one_of IsStoredReport IsSizedReport rs each;
      sized = other_of IsStoredReport IsSizedReport rs each;
    }

whole_law : Law (λ rest. begins_by (codes "process ") rest ≡ false) record_text (Fits ReportBehind []) (behind (codes "sigrecord 1\n") reports_front)
whole_law = behind_law (codes "sigrecord 1\n") reports_law

nothing_left : (xs : List ℕ) → (length xs == 0) ≡ true → xs ≡ []
nothing_left [] h = refl
nothing_left (x ∷ xs) h = absurd (omega (arith, (Decides-eqb (length (x ∷ xs)) 0).0 h))

-- what is read is a readable record, of which these bytes are the text
abbrev pub IsTextOf : List ℕ → List Report → Type 0
IsTextOf bytes rs = IsReadableRecord rs × (bytes ≡ record_text rs)

pub record_found : (bytes : List ℕ) → IfSome (record_in bytes) (IsTextOf bytes)
unfolding record_in
record_found bytes =
    if_bind (IsReadAs record_text (Fits ReportBehind []) bytes) (IsTextOf bytes) (behind (codes "sigrecord 1\n") reports_front bytes) (λ x. cond (length x.1 == 0) (Some x.0) None) (whole_law.found bytes) (λ x r.
    by_test (λ o. IfSome o (IsTextOf bytes)) (length x.1 == 0) (Some x.0) None
    (λ h. (from_zero x.0 r.0, r.1 ∙ ap (λ (t : List ℕ). record_text x.0 ++ t) (nothing_left x.1 h) ∙ append-nil (record_text x.0)))
    (λ h. tt))

-- a readable record is read again
pub record_again : (rs : List Report) → IsReadableRecord rs → record_in (record_text rs) ≡ Some rs
unfolding record_in
record_again rs readable =
    let each : All IsReadableReport rs = both IsStoredReport IsSizedReport rs readable.stored readable.sized in
    let fits : Fits ReportBehind [] rs = fits_of_record [] rs (λ i r e. subst (λ (n : ℕ). IsReport n r) (sym (zero-add i)) (readable.kept i r e)) each in
    let read : behind (codes "sigrecord 1\n") reports_front (record_text rs ++ []) ≡ Some (rs, []) = whole_law.again rs [] fits refl in
    ap record_in (sym (append-nil (record_text rs))) ∙ ap (λ (o : Option (List Report × List ℕ)). o >>= λ x. cond (length x.1 == 0) (Some x.0) None) read

-- different readable records have different texts
pub one_record : (a b : List Report) → IsReadableRecord a → IsReadableRecord b → record_text a ≡ record_text b → a ≡ b
one_record a b p q e = same_Some a b (sym (record_again a p) ∙ ap record_in e ∙ record_again b q)

-- what a reader of whole texts answers
pub tells : (bytes : List ℕ) (rs : List Report) → record_in bytes ≡ Some rs → IsTextOf bytes rs
tells bytes rs e = if_some_at (IsTextOf bytes) (record_in bytes) rs e (record_found bytes)

pub no_text : (bytes : List ℕ) → record_in bytes ≡ None → (rs : List Report) → IsReadableRecord rs → bytes ≢ record_text rs
no_text bytes e rs p h = none-some rs (sym e ∙ ap record_in h ∙ record_again rs p)
