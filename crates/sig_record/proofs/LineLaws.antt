-- The laws of a record's lines, and of the lines of one kind.
use Rattle.std.proofs.Common.{◌≡◌, ℕ, ◌-◌, ◌^◌, true, false, cond, not, List, [], ◌∷◌, ◌++◌, length, Some, None, refl, sym, ap, ◌∙◌, append_assoc, arith, length-append, zero-le}
use Rattle.std.specs.Prelude.{All, codes, decimal, slice_get, ◌==◌}
use Rattle.std.specs.List.{flat_map}
use Rattle.std.specs.List.Sorted.{IsSortedBy}
use Rattle.std.proofs.lemmas.Bool.{not-true, not_from_false}
use Rattle.std.proofs.lemmas.List.Elements.{All-nil, All-cons, All-head, All-tail}
use Rattle.std.proofs.lemmas.Option.{none-some}
use Rattle.sig_terms.specs.Words.{is_digit}
use Rattle.sig_terms.specs.Tokens.{number_at, digits_on}
use Rattle.sig_kinds.specs.declared.signal.Kind.{Kind}
use Rattle.sig_kinds.specs.declared.signal.Signal.{Signal}
use Rattle.sig_model.specs.declared.event.Event.{Event}
use Rattle.sig_model.specs.declared.state.State.{State}
use Rattle.sig_record.specs.declared.report.Left.{Left}
use Rattle.sig_record.specs.Sorting.{is_lower}
use Rattle.sig_record.specs.Phrases.{IsNarrow}
use Rattle.sig_record.specs.KindRows.{kind_text}
use Rattle.sig_record.specs.EventRows.{pid_of, did_text, outcome_text}
use Rattle.sig_record.specs.RecordText.{event_text, left_text, queued_text, state_text, head_text}
use Rattle.sig_record.specs.RecordFronts.{is_process_name, event_front, left_front, signal_of, signal_front, may_follow, queued_front, state_front, head_front, begins_by_digit, begins_by, events_front, lefts_front, all_queued_front}
use Rattle.sig_record.specs.StoredRecord.{IsStoredEvent, IsStoredLeft, IsStoredSignal, IsStoredState}
use Rattle.sig_record.specs.SizedRecord.{IsSizedEvent, IsSizedLeft, IsSizedSignal, IsSizedState}
use Rattle.sig_runs.proofs.Chains.{Chain, chain_from, adjacent_from}
use Rattle.sig_record.proofs.ReaderLaws.{Law, Anything, text_law, spaced_law, ended_law, behind_law, read_as_law, passing_law}
use Rattle.sig_record.proofs.PieceLaws.{narrow_law, wide_law, term_law, name_law}
use Rattle.sig_record.proofs.PhraseLaws.{kept_term, readable_term}
use Rattle.sig_record.proofs.PhraseRows.{did_law, did_sized, outcome_law, kind_law, standing_law}
use Rattle.sig_record.proofs.ManyLaws.{Fits, many_law}

-- ---- what can be read lies in memory, and its terms are no larger than what is read

abbrev pub IsReadableEvent : Event → Type 0
IsReadableEvent e = IsStoredEvent e × IsSizedEvent e

abbrev pub IsReadableLeft : Left → Type 0
IsReadableLeft l = IsStoredLeft l × IsSizedLeft l

abbrev pub IsReadableSignal : Signal → Type 0
IsReadableSignal s = IsStoredSignal s × IsSizedSignal s

abbrev pub IsReadableState : State → Type 0
IsReadableState s = IsStoredState s × IsSizedState s

-- ---- events

pub event_law : Law Anything event_text IsReadableEvent event_front
unfolding event_text event_front
event_law =
    read_as_law (spaced_law (spaced_law wide_law did_law) (ended_law (codes "\n") (λ rest. refl) outcome_law))
    (λ x. record { stamp = x.0.0; did = x.0.1; outcome = x.1 }) (λ e. ((e.stamp, e.did), e.outcome)) event_text IsReadableEvent (λ e k. refl)
    (λ x. append_assoc (decimal x.0.0 ++ codes " " ++ did_text x.0.1 ++ codes " ") (outcome_text x.1) (codes "\n"))
    (λ x k. (((k.0.0, k.0.1.0), k.1.0), k.1.1)) (λ e k. ((k.0.0.0, (k.0.0.1, did_sized e.did)), (k.0.1, k.1)))

digit_first : (most : ℕ) (bytes : List ℕ) (x : ℕ × List ℕ) → number_at most bytes ≡ Some x → begins_by_digit bytes ≡ true
digit_first most [] x e = absurd (none-some x e)
digit_first most (b ∷ bs) x e =
    elim (is_digit b) as (λ v. cond v (cond (b == 48) (Some (0, bs)) (Some (digits_on most (b - 48) bs))) None ≡ Some x → v ≡ true) [
      | true ↦ λ _. refl
      | false ↦ λ h. absurd (none-some x h)
    ] e

event_parts : (a b c rest : List ℕ) → (a ++ codes " " ++ b ++ codes " " ++ c ++ codes "\n") ++ rest ≡ a ++ (codes " " ++ (b ++ (codes " " ++ (c ++ (codes "\n" ++ rest)))))
event_parts a b c rest = simp append_assoc

pub event_begins : (e : Event) (rest : List ℕ) → IsReadableEvent e → begins_by_digit (event_text e ++ rest) ≡ true
unfolding event_text
event_begins e rest k =
    let behind : List ℕ = codes " " ++ (did_text e.did ++ (codes " " ++ (outcome_text e.outcome ++ (codes "\n" ++ rest)))) in
    ap begins_by_digit (event_parts (decimal e.stamp) (did_text e.did) (outcome_text e.outcome) rest)
    ∙ digit_first (2 ^ 64 - 1) (decimal e.stamp ++ behind) (e.stamp, behind) (wide_law.again e.stamp behind k.0.0.0 refl)

pub events_law : Law (λ rest. begins_by_digit rest ≡ false) (flat_map event_text) (Fits (λ _ e. IsReadableEvent e) []) events_front
events_law = many_law begins_by_digit (λ _. event_front) event_text (λ _ e. IsReadableEvent e) (λ _. event_law) refl (λ _ e rest k. event_begins e rest k)

-- ---- messages left

pub left_law : Law Anything left_text IsReadableLeft left_front
unfolding left_text left_front
left_law =
    read_as_law (behind_law (codes "left ") (spaced_law wide_law (ended_law (codes "\n") (λ rest. refl) term_law)))
    (λ x. record { arrival = x.0; message = x.1 }) (λ l. (l.arrival, l.message)) left_text IsReadableLeft (λ l k. refl) (λ x. simp append_assoc)
    (λ x k. ((k.0, k.1.term), kept_term x.1 k.1)) (λ l k. (k.0.0, readable_term l.message k.0.1 k.1))

pub left_begins : (l : Left) (rest : List ℕ) → begins_by (codes "left ") (left_text l ++ rest) ≡ true
unfolding left_text
left_begins l rest = refl

pub lefts_law : Law (λ rest. begins_by (codes "left ") rest ≡ false) (flat_map left_text) (Fits (λ _ l. IsReadableLeft l) []) lefts_front
lefts_law = many_law (begins_by (codes "left ")) (λ _. left_front) left_text (λ _ l. IsReadableLeft l) (λ _. left_law) refl (λ _ l rest k. left_begins l rest)

-- ---- signals

abbrev GoesTo : ℕ → Signal → Type 0
GoesTo pid s = IsReadableSignal s × (s.to.0 ≡ pid)

abbrev parts_of_signal : Signal → ((ℕ × ℕ) × ℕ) × Kind
parts_of_signal s = (((s.from.0, s.number), s.stamp), s.kind)

same_signal : (pid : ℕ) (s : Signal) → s.to.0 ≡ pid → signal_of pid (parts_of_signal s) ≡ s
same_signal pid s e =
    let made : ℕ → Signal = λ n. record { from = s.from; to = pid_of n; number = s.number; stamp = s.stamp; kind = s.kind } in
    ap made (sym e)

pub signal_law : (pid : ℕ) → Law Anything queued_text (GoesTo pid) (signal_front pid)
unfolding queued_text signal_front
signal_law pid =
    read_as_law (behind_law (codes "queued ") (spaced_law (spaced_law (spaced_law narrow_law wide_law) wide_law) (ended_law (codes "\n") (λ rest. refl) kind_law)))
    (signal_of pid) parts_of_signal queued_text (GoesTo pid) (λ s k. same_signal pid s k.1)
    (λ x. ap (λ (e : List ℕ). codes "queued " ++ e) (append_assoc (decimal x.0.0.0 ++ codes " " ++ decimal x.0.0.1 ++ codes " " ++ decimal x.0.1 ++ codes " ") (kind_text x.1) (codes "\n")))
    (λ x k. (((k.0, k.1.0), k.1.1), refl)) (λ s k. (k.0.0.0, (k.0.0.1, k.0.1)))

-- behind these, the signal may stand
abbrev pub QueuedBehind : ℕ → List Signal → Signal → Type 0
QueuedBehind pid before s = GoesTo pid s × (may_follow before s ≡ true)

pub queued_begins : (s : Signal) (rest : List ℕ) → begins_by (codes "queued ") (queued_text s ++ rest) ≡ true
unfolding queued_text
queued_begins s rest = refl

pub queued_behind_law : (pid : ℕ) (before : List Signal) → Law Anything queued_text (QueuedBehind pid before) (queued_front pid before)
queued_behind_law pid before = passing_law (may_follow before) (signal_law pid)

pub all_queued_law : (pid : ℕ) → Law (λ rest. begins_by (codes "queued ") rest ≡ false) (flat_map queued_text) (Fits (QueuedBehind pid) []) (all_queued_front pid)
all_queued_law pid =
    many_law (begins_by (codes "queued ")) (queued_front pid) queued_text (QueuedBehind pid) (queued_behind_law pid) refl (λ _ s rest k. queued_begins s rest)

-- of two neighbours the later isn't the lower
abbrev NotLower : Signal → Signal → Type 0
NotLower a b = is_lower b a ≡ false

at_end : {X : Type 0} (items : List X) (x : X) → slice_get (items ++ x ∷ []) (length items) ≡ Some x
at_end [] x = refl
at_end (y ∷ items) x = at_end items x

follow_is : (before : List Signal) (last s : Signal) → may_follow (before ++ last ∷ []) s ≡ not (is_lower s last)
follow_is before last s =
    let place : length (before ++ last ∷ []) - 1 ≡ length before = omega (arith, length-append before (last ∷ [])) in
    rw (place, at_end before last) refl

chain_of_fits : (pid : ℕ) (before : List Signal) (x : Signal) (xs : List Signal) → Fits (QueuedBehind pid) (before ++ x ∷ []) xs → Chain NotLower (x ∷ xs)
chain_of_fits pid before x [] fits = tt
chain_of_fits pid before x (y ∷ ys) fits =
    (not-true (is_lower y x) (sym (follow_is before x y) ∙ fits.0.1), chain_of_fits pid (before ++ x ∷ []) y ys fits.1)

fits_of_chain : (pid : ℕ) (before : List Signal) (x : Signal) (xs : List Signal) → All IsReadableSignal xs → All (λ (s : Signal). s.to.0 ≡ pid) xs → Chain NotLower (x ∷ xs) → Fits (QueuedBehind pid) (before ++ x ∷ []) xs
fits_of_chain pid before x [] readable to chain = tt
fits_of_chain pid before x (y ∷ ys) readable to chain = (
  ((All-head IsReadableSignal y ys readable, All-head (λ (s : Signal). s.to.0 ≡ pid) y ys to), follow_is before x y ∙ not_from_false (is_lower y x) chain.0),
  fits_of_chain pid (before ++ x ∷ []) y ys (All-tail IsReadableSignal y ys readable) (All-tail (λ (s : Signal). s.to.0 ≡ pid) y ys to) chain.1,
)

pub readable_signals : (pid : ℕ) (before xs : List Signal) → Fits (QueuedBehind pid) before xs → All IsReadableSignal xs
readable_signals pid before [] fits = All-nil IsReadableSignal
readable_signals pid before (x ∷ xs) fits = All-cons IsReadableSignal x xs fits.0.0.0 (readable_signals pid (before ++ x ∷ []) xs fits.1)

pub signals_to : (pid : ℕ) (before xs : List Signal) → Fits (QueuedBehind pid) before xs → All (λ (s : Signal). s.to.0 ≡ pid) xs
signals_to pid before [] fits = All-nil (λ (s : Signal). s.to.0 ≡ pid)
signals_to pid before (x ∷ xs) fits = All-cons (λ (s : Signal). s.to.0 ≡ pid) x xs fits.0.0.1 (signals_to pid (before ++ x ∷ []) xs fits.1)

signals_chain : (pid : ℕ) (xs : List Signal) → Fits (QueuedBehind pid) [] xs → Chain NotLower xs
signals_chain pid [] fits = tt
signals_chain pid (x ∷ xs) fits = chain_of_fits pid [] x xs fits.1

pub signals_rise : (pid : ℕ) (xs : List Signal) → Fits (QueuedBehind pid) [] xs → IsSortedBy is_lower xs
signals_rise pid xs fits k d low lt = adjacent_from NotLower xs (signals_chain pid xs fits) k d lt

pub signals_fit : (pid : ℕ) (xs : List Signal) → All IsReadableSignal xs → All (λ (s : Signal). s.to.0 ≡ pid) xs → IsSortedBy is_lower xs → Fits (QueuedBehind pid) [] xs
signals_fit pid [] readable to rising = tt
signals_fit pid (x ∷ xs) readable to rising = (
  ((All-head IsReadableSignal x xs readable, All-head (λ (s : Signal). s.to.0 ≡ pid) x xs to), refl),
  fits_of_chain pid [] x xs (All-tail IsReadableSignal x xs readable) (All-tail (λ (s : Signal). s.to.0 ≡ pid) x xs to) (chain_from NotLower (x ∷ xs) (λ k d lt. rising k d zero-le lt)),
)

-- ---- states, and heads

pub state_law : Law Anything state_text IsReadableState state_front
state_law = ended_law (codes "\n") (λ rest. refl) standing_law

pub head_law : (pid : ℕ) → Law Anything (λ (x : ℕ × List ℕ). head_text x.0 x.1) (λ (x : ℕ × List ℕ). (IsNarrow x.0 × (is_process_name x.1 ≡ true)) × ((x.0 == pid) ≡ true)) (head_front pid)
unfolding head_front
head_law pid =
    passing_law (λ x. x.0 == pid)
    (text_law (λ x. head_text x.0 x.1) (λ x. simp append_assoc) (behind_law (codes "process ") (spaced_law narrow_law (ended_law (codes "\n") (λ rest. refl) name_law))))
