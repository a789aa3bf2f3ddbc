-- The lines of a record, each with its line feed at its end.
use Rattle.std.proofs.Common.{◌≡◌, ℕ, true, List, ◌++◌, refl, arith}
use Rattle.std.specs.Prelude.{codes, decimal}
use Rattle.sig_terms.specs.TermText.{term_text}
use Rattle.sig_kinds.specs.declared.signal.Signal.{Signal}
use Rattle.sig_model.specs.declared.event.Event.{Event}
use Rattle.sig_model.specs.declared.state.State.{State}
use Rattle.sig_record.specs.declared.report.Left.{Left}
use Rattle.sig_record.specs.FaultLine.{IsInline}
use Rattle.sig_record.specs.Phrases.{IsNarrow, phrase_text}
use Rattle.sig_record.specs.EventRows.{did_phrase, did_text, outcome_phrase, outcome_text, state_phrase}
use Rattle.sig_record.specs.KindRows.{kind_phrase, kind_text}
use Rattle.sig_record.specs.RecordText.{event_text, left_text, queued_text, state_text, head_text}
use Rattle.sig_record.specs.RecordFronts.{is_process_name}
use Rattle.sig_record.proofs.CleanTexts.{IsLine, clean_on, decimal_clean, process_name_clean, term_clean, phrase_clean}
use Rattle.sig_record.proofs.PhraseRows.{did_word, outcome_word, kind_word, state_word}
use Rattle.sig_record.proofs.LineLaws.{IsReadableEvent, IsReadableLeft, IsReadableSignal, IsReadableState}

-- ---- lines

-- two parts with a space behind each
spaced_clean : (a b : List ℕ) → IsInline a → IsInline b → IsInline (a ++ codes " " ++ b)
spaced_clean a b p q = clean_on (a ++ codes " ") b (clean_on a (codes " ") p refl) q

pub event_line : (e : Event) → IsReadableEvent e → IsLine (event_text e)
unfolding event_text
event_line e k =
    let did : IsInline (did_text e.did) = phrase_clean (did_phrase e.did) (did_word e.did) k.0.0.1 in
    let outcome : IsInline (outcome_text e.outcome) = phrase_clean (outcome_phrase e.outcome) (outcome_word e.outcome) k.0.1 in
    record {
      front = decimal e.stamp ++ codes " " ++ did_text e.did ++ codes " " ++ outcome_text e.outcome;
      is = refl;
      clean = spaced_clean (decimal e.stamp ++ codes " " ++ did_text e.did) (outcome_text e.outcome) (spaced_clean (decimal e.stamp) (did_text e.did) (decimal_clean e.stamp k.0.0.0) did) outcome;
    }

pub left_line : (l : Left) → IsReadableLeft l → IsLine (left_text l)
unfolding left_text
left_line l k = record {
  front = codes "left " ++ decimal l.arrival ++ codes " " ++ term_text l.message;
  is = refl;
  clean = spaced_clean (codes "left " ++ decimal l.arrival) (term_text l.message) (clean_on (codes "left ") (decimal l.arrival) refl (decimal_clean l.arrival k.0.0)) (term_clean l.message k.0.1);
}

pub queued_line : (s : Signal) → IsReadableSignal s → IsLine (queued_text s)
unfolding queued_text
queued_line s k =
    let from : IsInline (codes "queued " ++ decimal s.from.0) = clean_on (codes "queued ") (decimal s.from.0) refl (decimal_clean s.from.0 (omega (arith, k.0.0.0.0))) in
    let number : IsInline (codes "queued " ++ decimal s.from.0 ++ codes " " ++ decimal s.number) = spaced_clean (codes "queued " ++ decimal s.from.0) (decimal s.number) from (decimal_clean s.number k.0.0.0.1) in
    let stamp : IsInline (codes "queued " ++ decimal s.from.0 ++ codes " " ++ decimal s.number ++ codes " " ++ decimal s.stamp) =
    spaced_clean (codes "queued " ++ decimal s.from.0 ++ codes " " ++ decimal s.number) (decimal s.stamp) number (decimal_clean s.stamp k.0.0.1) in
    record {
      front = codes "queued " ++ decimal s.from.0 ++ codes " " ++ decimal s.number ++ codes " " ++ decimal s.stamp ++ codes " " ++ kind_text s.kind;
      is = refl;
      clean = spaced_clean (codes "queued " ++ decimal s.from.0 ++ codes " " ++ decimal s.number ++ codes " " ++ decimal s.stamp) (kind_text s.kind) stamp (phrase_clean (kind_phrase s.kind) (kind_word s.kind) k.0.1);
    }

pub state_line : (s : State) → IsReadableState s → IsLine (state_text s)
state_line s k = record { front = phrase_text (state_phrase s); is = refl; clean = phrase_clean (state_phrase s) (state_word s) k.0 }

pub head_line : (x : ℕ × List ℕ) → IsNarrow x.0 → is_process_name x.1 ≡ true → IsLine (head_text x.0 x.1)
head_line x narrow name = record {
  front = codes "process " ++ decimal x.0 ++ codes " " ++ x.1;
  is = refl;
  clean = spaced_clean (codes "process " ++ decimal x.0) x.1 (clean_on (codes "process ") (decimal x.0) refl (decimal_clean x.0 (omega (arith, narrow)))) (process_name_clean x.1 name);
}
