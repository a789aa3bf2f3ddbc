-- The line at which bytes are told to be no record's text.
use Rattle.std.proofs.Common.{◌≡◌, ℕ, suc, ◌-◌, Bool, true, false, cond, List, [], ◌∷◌, ◌++◌, length, take, Option, Some, None, Result, Ok, Err, refl, sym, ap, subst, ◌∙◌, inl, inr, append_assoc, arith, length-append}
use Rattle.std.specs.Prelude.{IsErrOf, codes, ◌==◌}
use Rattle.std.specs.List.{flat_map}
use Rattle.std.proofs.lemmas.Bool.Decides.{Decides-eqb}
use Rattle.std.proofs.lemmas.Grind.{flat_map-append}
use Rattle.std.proofs.lemmas.List.{append-nil, take_at}
use Rattle.std.proofs.lemmas.Option.{none-some}
use Rattle.sig_terms.specs.Tokens.{◌>>=◌, after_text}
use Rattle.sig_terms.proofs.Choices.{if_bind}
use Rattle.sig_terms.proofs.TokenTexts.{after_text_is}
use Rattle.sig_record.specs.declared.refusal.RecordError.{RecordError}
use Rattle.sig_record.specs.declared.refusal.RecordError.TheVariants as wrong
use Rattle.sig_record.specs.declared.report.Report.{Report}
use Rattle.sig_record.specs.FaultLine.{IsInline, feeds, AreWhole, BeginARecord, IsFaultLine}
use Rattle.sig_record.specs.LineReaders.{or_left, go_on}
use Rattle.sig_record.specs.RecordText.{report_text, record_text}
use Rattle.sig_record.specs.RecordFronts.{begins_by, report_front, reports_front, record_in}
use Rattle.sig_record.specs.RecordLines.{report_lines, reports_lines, record_lines}
use Rattle.sig_record.proofs.ReaderLaws.{IsReadAs, Law, Anything, after_again}
use Rattle.sig_record.proofs.TermFronts.{if_some_at}
use Rattle.sig_record.proofs.ManyLaws.{Fits, fits_more}
use Rattle.sig_record.proofs.RecordLaws.{ReportBehind, report_law, report_begins, from_zero, IsTextOf, tells, record_again}
use Rattle.sig_record.proofs.CleanTexts.{IsLine}
use Rattle.sig_record.proofs.FirstLines.{text_by_first_line, no_line_again}
use Rattle.sig_record.proofs.Forgetting.{ok_of, err_of, left_forgotten, left_some, left_none, left_count, ok_parts, err_parts, ok_no_err, same_bind}
use Rattle.sig_record.proofs.LinesLaws.{Passes, Stops, LinesLaw, by_cases, whole_on}
use Rattle.sig_record.proofs.ManyLines.{many_lines_law}
use Rattle.sig_record.proofs.OneFault.{one_fault}
use Rattle.sig_record.proofs.RecordStops.{BeginsReport, report_lines_law}

-- ---- the parts of the processes

-- the texts of some processes' parts begin so
abbrev BeginReports : List ℕ → Type 0
BeginReports before = (rs : List Report) × (rest : List ℕ) × Fits ReportBehind [] rs × (flat_map report_text rs ≡ before ++ rest)

one_report_more : (rs : List Report) (r : Report) → flat_map report_text (rs ++ r ∷ []) ≡ flat_map report_text rs ++ report_text r
one_report_more rs r = flat_map-append report_text rs (r ∷ []) ∙ ap (λ (t : List ℕ). flat_map report_text rs ++ t) (append-nil (report_text r))

reports_begin : (rs : List Report) (s : List ℕ) → Fits ReportBehind [] rs → BeginsReport (length rs) s → BeginReports (flat_map report_text rs ++ s)
reports_begin rs s fits (inl e) =
    (rs, [], fits, sym (append-nil (flat_map report_text rs)) ∙ ap (λ (t : List ℕ). flat_map report_text rs ++ t) (sym e) ∙ sym (append-nil (flat_map report_text rs ++ s)))
reports_begin rs s fits (inr x) =
    (rs ++ x.0 ∷ [], x.1, fits_more ReportBehind [] rs x.0 fits x.2, one_report_more rs x.0 ∙ ap (λ (t : List ℕ). flat_map report_text rs ++ t) x.3 ∙ sym (append_assoc (flat_map report_text rs) s x.1))

all_lines : LinesLaw (flat_map report_text) (Fits ReportBehind []) reports_front BeginReports reports_lines
all_lines =
    many_lines_law (begins_by (codes "process ")) (λ before. report_lines (length before)) (λ before. report_front (length before)) report_text ReportBehind (λ before. BeginsReport (length before)) BeginReports
    (λ before. report_lines_law (length before)) (λ before. report_law (length before)) refl (λ before r rest k. report_begins r rest)
    (text_by_first_line (codes "process ") refl) reports_begin

-- ---- the first line

abbrev header : List ℕ
header = codes "sigrecord 1\n"

abbrev behind : List ℕ → Option (Unit {0} × List ℕ)
behind rest = Some (tt, rest)

abbrev header_front : List ℕ → Option (Unit {0} × List ℕ)
header_front bytes = after_text header bytes >>= behind

header_law : Law Anything (λ (x : Unit {0}). header) (λ (x : Unit {0}). Unit {0}) header_front
header_law = record {
  found = λ bytes.
      if_bind (λ rest. bytes ≡ header ++ rest) (IsReadAs (λ (x : Unit {0}). header) (λ (x : Unit {0}). Unit {0}) bytes) (after_text header bytes) behind (after_text_is header bytes) (λ rest e. (tt, e));
  again = λ x rest k stop. ap (λ (o : Option (List ℕ)). o >>= behind) (after_again header rest);
}

header_line : IsLine header
header_line = record { front = codes "sigrecord 1"; is = refl; clean = refl }

none_back : (o : Option (List ℕ)) → (o >>= behind) ≡ None → o ≡ None
none_back None e = refl
none_back (Some x) e =
    let found : Unit {0} × List ℕ = (tt, x) in
    absurd (none-some found (sym e))

-- ---- where a line can't stand

record RecordStop (bytes : List ℕ) (left : ℕ) : Type 0 where
  before : List ℕ
  rest : List ℕ
  is : bytes ≡ before ++ rest
  count : length rest ≡ left
  whole : AreWhole before
  begins : BeginARecord before
  never : (line more other : List ℕ) → IsInline line → rest ≡ line ++ 10 ∷ more → record_in (before ++ (line ++ 10 ∷ other)) ≡ None

no_header : (bytes : List ℕ) (left : ℕ) → after_text header bytes ≡ None → length bytes ≡ left → RecordStop bytes left
unfolding record_in
no_header bytes left none count = record {
  before = [];
  rest = bytes;
  is = refl;
  count = count;
  whole = inl refl;
  begins = ([], record_text [], from_zero [] tt, refl);
  never = λ line more other clean is.
      let here : header_front (line ++ 10 ∷ more) ≡ None = ap header_front (sym is) ∙ ap (λ (o : Option (List ℕ)). o >>= behind) none in
      let there : after_text header (line ++ 10 ∷ other) ≡ None =
      none_back (after_text header (line ++ 10 ∷ other)) (no_line_again header_law (λ x k. header_line) line more other clean here) in
      rw there refl;
}

behind_header : (rest : List ℕ) → record_in (header ++ rest) ≡ (reports_front rest >>= λ x. cond (length x.1 == 0) (Some x.0) None)
unfolding record_in
behind_header rest = ap (λ (o : Option (List ℕ)). (o >>= reports_front) >>= λ x. cond (length x.1 == 0) (Some x.0) None) (after_again header rest)

in_reports : (bytes rest : List ℕ) (left : ℕ) → bytes ≡ header ++ rest → Stops reports_front BeginReports rest left → RecordStop bytes left
in_reports bytes rest left is s = record {
  before = header ++ s.before;
  rest = s.rest;
  is = is ∙ ap (λ (t : List ℕ). header ++ t) s.is ∙ sym (append_assoc header s.before s.rest);
  count = s.count;
  whole = whole_on header s.before (inr (codes "sigrecord 1", refl)) s.whole;
  begins =
      let b = s.begun in
      (b.0, b.1, from_zero b.0 b.2, ap (λ (t : List ℕ). header ++ t) b.3 ∙ sym (append_assoc header s.before b.1));
  never = λ line more other clean is.
      ap record_in (append_assoc header s.before (line ++ 10 ∷ other)) ∙ behind_header (s.before ++ (line ++ 10 ∷ other))
      ∙ ap (λ (o : Option (List Report × List ℕ)). o >>= λ x. cond (length x.1 == 0) (Some x.0) None) (s.never line more other clean is);
}

false_by : (b : Bool) → (b ≡ true → ⊥) → b ≡ false
false_by true h = absurd (h refl)
false_by false h = refl

not_empty : (line other : List ℕ) → (length (line ++ 10 ∷ other) == 0) ≡ false
not_empty line other = false_by (length (line ++ 10 ∷ other) == 0) (λ h. omega (arith, (Decides-eqb (length (line ++ 10 ∷ other)) 0).0 h, length-append line (10 ∷ other)))

behind_reports : (bytes rest : List ℕ) (left : ℕ) (x : List Report × List ℕ) → bytes ≡ header ++ rest → Passes reports_front (flat_map report_text) (Fits ReportBehind []) rest x → length x.1 ≡ left → RecordStop bytes left
behind_reports bytes rest left x is r count = record {
  before = header ++ flat_map report_text x.0;
  rest = x.1;
  is = is ∙ ap (λ (t : List ℕ). header ++ t) r.is ∙ sym (append_assoc header (flat_map report_text x.0) x.1);
  count = count;
  whole = whole_on header (flat_map report_text x.0) (inr (codes "sigrecord 1", refl)) (all_lines.whole x.0 r.good);
  begins = (x.0, [], from_zero x.0 r.good, sym (append-nil (header ++ flat_map report_text x.0)));
  never = λ line more other clean is.
      ap record_in (append_assoc header (flat_map report_text x.0) (line ++ 10 ∷ other)) ∙ behind_header (flat_map report_text x.0 ++ (line ++ 10 ∷ other))
      ∙ ap (λ (o : Option (List Report × List ℕ)). o >>= λ x. cond (length x.1 == 0) (Some x.0) None) (r.again line more other is)
      ∙ rw (not_empty line other) refl;
}

end_count : (b : Bool) (rs : List Report) (n left : ℕ) → cond b (Ok rs) (Err n) ≡ Err left → n ≡ left
end_count true rs n left e = absurd (ok_no_err rs left e)
end_count false rs n left e = ap err_of e

header_is : (bytes rest : List ℕ) → after_text header bytes ≡ Some rest → bytes ≡ header ++ rest
header_is bytes rest e = if_some_at (λ r. bytes ≡ header ++ r) (after_text header bytes) rest e (after_text_is header bytes)

record_stops : (bytes : List ℕ) (left : ℕ) → record_lines bytes ≡ Err left → RecordStop bytes left
unfolding record_lines
record_stops bytes left e =
    let first = or_left (length bytes) (after_text header bytes) in
    by_cases (err_parts (go_on first reports_lines) (λ x. cond (length x.1 == 0) (Ok x.0) (Err (length x.1))) left e)
    (λ e. by_cases (err_parts first reports_lines left e)
    (λ e. no_header bytes left (left_none (length bytes) left (after_text header bytes) e) (left_count (length bytes) left (after_text header bytes) e))
    (λ x. in_reports bytes x.0 left (header_is bytes x.0 (left_some (length bytes) (after_text header bytes) x.0 x.1)) (all_lines.stops x.0 left x.2)))
    (λ x. let y = ok_parts first reports_lines x.0 x.1 in
    behind_reports bytes y.0 left x.0 (header_is bytes y.0 (left_some (length bytes) (after_text header bytes) y.0 y.1)) (all_lines.passes y.0 x.0 y.2) (end_count (length x.0.1 == 0) x.0.0 (length x.0.1) left x.2))

-- ---- what a reader of records tells

end_same : (b : Bool) (rs : List Report) (n : ℕ) → ok_of (cond b (Ok rs) (Err n)) ≡ cond b (Some rs) None
end_same true rs n = refl
end_same false rs n = refl

record_same : (bytes : List ℕ) → ok_of (record_lines bytes) ≡ record_in bytes
unfolding record_lines record_in
record_same bytes =
    let first = or_left (length bytes) (after_text header bytes) in
    same_bind (go_on first reports_lines) (after_text header bytes >>= reports_front) (λ x. cond (length x.1 == 0) (Ok x.0) (Err (length x.1))) (λ x. cond (length x.1 == 0) (Some x.0) None)
    (same_bind first (after_text header bytes) reports_lines reports_front (left_forgotten (length bytes) (after_text header bytes)) all_lines.same)
    (λ x. end_same (length x.1 == 0) x.0 (length x.1))

read_is : (bytes : List ℕ) (rs : List Report) → record_lines bytes ≡ Ok rs → record_in bytes ≡ Some rs
read_is bytes rs e = sym (record_same bytes) ∙ ap ok_of e

-- what was read is a readable record, of which these bytes are the text
pub is_read : (bytes : List ℕ) (rs : List Report) → record_lines bytes ≡ Ok rs → IsTextOf bytes rs
is_read bytes rs e = tells bytes rs (read_is bytes rs e)

pub read_none : (bytes : List ℕ) (left : ℕ) → record_lines bytes ≡ Err left → record_in bytes ≡ None
read_none bytes left e = sym (record_same bytes) ∙ ap ok_of e

with_feed : (a b : List ℕ) → a ++ codes "\n" ++ b ≡ a ++ 10 ∷ b
with_feed a b = append_assoc a (codes "\n") b

pub fault_line : (bytes : List ℕ) (left : ℕ) → record_lines bytes ≡ Err left → IsFaultLine bytes (suc (feeds (take (length bytes - left) bytes)))
fault_line bytes left e =
    let s = record_stops bytes left e in
    let places : length s.before ≡ length bytes - left = omega (arith, ap length s.is, length-append s.before s.rest, s.count) in
    let front : take (length bytes - left) bytes ≡ s.before = ap (take (length bytes - left)) s.is ∙ take_at s.before s.rest (length bytes - left) places in
    record {
      before = s.before;
      rest = s.rest;
      cut = s.is;
      whole = s.whole;
      number = ap (λ (t : List ℕ). suc (feeds t)) front;
      begins = s.begins;
      last = λ next more clean is b.
          let text : record_text b.0 ≡ s.before ++ (next ++ 10 ∷ b.1) = b.3 ∙ with_feed (s.before ++ next) b.1 ∙ append_assoc s.before next (10 ∷ b.1) in
          none-some b.0 (sym (s.never next more b.1 clean (is ∙ with_feed next more)) ∙ ap record_in (sym text) ∙ record_again b.0 b.2);
    }

line_in : {T : Type 0} → Result T RecordError → ℕ
line_in (Ok x) = 0
line_in (Err (wrong.BadRecord line)) = line
line_in (Err wrong.Memory) = 0

-- the line that is told is that one, and there is no other
pub told_is_fault : (T : Type 0) (bytes : List ℕ) (left told line : ℕ) → record_lines bytes ≡ Err left → told ≡ suc (feeds (take (length bytes - left) bytes)) → IsErrOf {T = T} (Err (wrong.BadRecord told)) (wrong.BadRecord line) → IsFaultLine bytes line
unfolding line_in
told_is_fault T bytes left told line e count same = subst (IsFaultLine bytes) (sym count ∙ ap (line_in {T = T}) same) (fault_line bytes left e)

pub fault_is_told : (bytes : List ℕ) (left told line : ℕ) → record_lines bytes ≡ Err left → told ≡ suc (feeds (take (length bytes - left) bytes)) → IsFaultLine bytes line → told ≡ line
fault_is_told bytes left told line e count fault = count ∙ one_fault bytes (suc (feeds (take (length bytes - left) bytes))) line (fault_line bytes left e) fault
