-- What is told of how processes stand can be read back, so different outcomes have different texts.
use Rattle.std.proofs.Common.{◌≡◌, ◌≢◌, ℕ, ◌+◌, ◌≤◌, true, false, List, [], ◌∷◌, ◌++◌, length, get_or, Option, Some, None, refl, sym, ap, ◌∙◌, subst, arith, append_assoc}
use Rattle.std.specs.Prelude.{All, codes, decimal}
use Rattle.std.specs.List.{flat_map}
use Rattle.std.proofs.lemmas.Bool.{false≢true}
use Rattle.std.proofs.lemmas.List.{append-nil}
use Rattle.std.proofs.lemmas.List.Elements.{All-head, All-map, All-tail}
use Rattle.std.proofs.lemmas.Option.{same_Some}
use Rattle.sig_terms.specs.declared.term.Term.{Term}
use Rattle.sig_terms.specs.Readable.{IsReadable}
use Rattle.sig_kinds.specs.declared.signal.Kind.{Kind}
use Rattle.sig_kinds.specs.declared.signal.Signal.{Signal}
use Rattle.sig_model.specs.declared.state.State.{State}
use Rattle.sig_model.specs.declared.state.State.TheVariants as state
use Rattle.sig_outcomes.specs.Outcomes.{Rest, Unhandled, unhandled}
use Rattle.sig_outcomelaw.specs.Told.{message_of, outcome_told, rest_told}
use Rattle.sig_record.specs.declared.report.Left.{Left}
use Rattle.sig_record.specs.declared.report.Report.{Report}
use Rattle.sig_record.specs.EndText.{message_text, waiting_text}
use Rattle.sig_record.specs.KindRows.{kind_front, kind_text}
use Rattle.sig_record.specs.Phrases.{IsNarrow, narrow, term_front}
use Rattle.sig_record.specs.Readers.{Reader, behind, ended, joined, many, read_as, spaced}
use Rattle.sig_record.specs.RecordFronts.{begins_by, state_front}
use Rattle.sig_record.specs.RecordText.{head_text, state_text}
use Rattle.sig_record.specs.SizedRecord.{IsSizedKind, IsSizedRecord, IsSizedReport}
use Rattle.sig_record.specs.StoredEnds.{AreStoredEnds, IsStoredEnd}
use Rattle.sig_record.specs.StoredRecord.{IsStoredKind}
use Rattle.sig_record.proofs.LineLaws.{IsReadableState, state_law}
use Rattle.sig_record.proofs.ManyLaws.{all_fits, Fits, many_law}
use Rattle.sig_record.proofs.PhraseLaws.{readable_term}
use Rattle.sig_record.proofs.PhraseRows.{kind_law}
use Rattle.sig_record.proofs.PieceLaws.{narrow_law, term_law}
use Rattle.sig_record.proofs.ReaderLaws.{Anything, behind_law, ended_law, joined_law, Law, read_as_law, spaced_law, stopped_law, text_law}
use Rattle.sig_view.specs.OutcomeText.{rest_text, rests_text, unhandled_text}

-- ---- lines

abbrev message_front : Reader Term
message_front = behind (codes "left ") (ended (codes "\n") term_front)

message_law : Law Anything message_text IsReadable message_front
unfolding message_text
message_law = text_law message_text (λ t. refl) (behind_law (codes "left ") (ended_law (codes "\n") (λ rest. refl) term_law))

message_begins : (t : Term) (rest : List ℕ) → begins_by (codes "left ") (message_text t ++ rest) ≡ true
unfolding message_text
message_begins t rest = refl

-- the sender has its 32 bits, and what the signal says can be read
abbrev IsReadableWaiting : Unhandled → Type 0
IsReadableWaiting u = IsNarrow u.sender × (IsStoredKind u.kind × IsSizedKind u.kind)

abbrev waiting_front : Reader Unhandled
waiting_front = read_as (λ (x : ℕ × Kind). record { sender = x.0; kind = x.1 }) (behind (codes "queued ") (spaced narrow (ended (codes "\n") kind_front)))

waiting_law : Law Anything unhandled_text IsReadableWaiting waiting_front
unfolding waiting_text
waiting_law =
    read_as_law (behind_law (codes "queued ") (spaced_law narrow_law (ended_law (codes "\n") (λ rest. refl) kind_law)))
    (λ x. record { sender = x.0; kind = x.1 }) (λ u. (u.sender, u.kind)) unhandled_text IsReadableWaiting (λ u k. refl)
    (λ x. ap (λ (e : List ℕ). codes "queued " ++ e) (append_assoc (decimal x.0 ++ codes " ") (kind_text x.1) (codes "\n")))
    (λ x k. k) (λ u k. k)

waiting_begins : (u : Unhandled) (rest : List ℕ) → begins_by (codes "queued ") (unhandled_text u ++ rest) ≡ true
unfolding waiting_text
waiting_begins u rest = refl

-- ---- the lines of a process

abbrev NoLeft : List ℕ → Type 0
NoLeft rest = begins_by (codes "left ") rest ≡ false

abbrev NoWaiting : List ℕ → Type 0
NoWaiting rest = NoLeft rest × (begins_by (codes "queued ") rest ≡ false)

abbrev lefts_front : Reader (List Term)
lefts_front = many (begins_by (codes "left ")) (λ _. message_front)

abbrev waits_front : Reader (List Unhandled)
waits_front = many (begins_by (codes "queued ")) (λ _. waiting_front)

lefts_law : Law NoLeft (flat_map message_text) (Fits (λ _ t. IsReadable t) []) lefts_front
lefts_law = many_law (begins_by (codes "left ")) (λ _. message_front) message_text (λ _ t. IsReadable t) (λ _. message_law) refl (λ _ t rest k. message_begins t rest)

waits_law : Law (λ rest. begins_by (codes "queued ") rest ≡ false) (flat_map unhandled_text) (Fits (λ _ u. IsReadableWaiting u) []) waits_front
waits_law = many_law (begins_by (codes "queued ")) (λ _. waiting_front) unhandled_text (λ _ u. IsReadableWaiting u) (λ _. waiting_law) refl (λ _ u rest k. waiting_begins u rest)

waits_stop : (us : List Unhandled) (rest : List ℕ) → NoWaiting rest → NoLeft (flat_map unhandled_text us ++ rest)
unfolding waiting_text
waits_stop [] rest stop = stop.0
waits_stop (u ∷ us) rest stop = refl

state_stops : (s : State) (rest : List ℕ) → NoWaiting (state_text s ++ rest)
state_stops (state.Ended reason) rest = (refl, refl)
state_stops state.Waiting rest = (refl, refl)
state_stops state.Cut rest = (refl, refl)

lists_law : Law NoWaiting (λ (x : List Term × List Unhandled). flat_map message_text x.0 ++ flat_map unhandled_text x.1)
    (λ x. Fits (λ _ t. IsReadable t) [] x.0 × Fits (λ _ u. IsReadableWaiting u) [] x.1) (joined lefts_front waits_front)
lists_law = joined_law lefts_law (stopped_law (λ rest stop. stop.1) waits_law) (λ us rest k stop. waits_stop us rest stop)

parts_law : Law Anything (λ (x : (List Term × List Unhandled) × State). (flat_map message_text x.0.0 ++ flat_map unhandled_text x.0.1) ++ state_text x.1)
    (λ x. (Fits (λ _ t. IsReadable t) [] x.0.0 × Fits (λ _ u. IsReadableWaiting u) [] x.0.1) × IsReadableState x.1) (joined (joined lefts_front waits_front) state_front)
parts_law = joined_law lists_law state_law (λ s rest k stop. state_stops s rest)

-- what is told of the process can be read
pub record IsReadableRest (r : Rest) : Type 0 where
  pub left : All IsReadable r.left
  pub queued : All IsReadableWaiting r.queued
  pub state : IsReadableState r.state

abbrev parts_of : Rest → (List Term × List Unhandled) × State
parts_of r = ((r.left, r.queued), r.state)

abbrev rest_front : Reader ((List Term × List Unhandled) × State)
rest_front = joined (joined lefts_front waits_front) state_front

read_again : (r : Rest) (more : List ℕ) → IsReadableRest r → rest_front (rest_text r ++ more) ≡ Some (parts_of r, more)
read_again r more k =
    parts_law.again (parts_of r) more
    ((all_fits IsReadable [] r.left k.left, all_fits IsReadableWaiting [] r.queued k.queued), k.state) tt

rest_of_parts : (List Term × List Unhandled) × State → Rest
rest_of_parts x = record { state = x.1; left = x.0.0; queued = x.0.1 }

-- where two texts begin by what is told of a process, the two stand alike, and the texts go on alike
one_rest : (r s : Rest) (more other : List ℕ) → IsReadableRest r → IsReadableRest s → rest_text r ++ more ≡ rest_text s ++ other → (r ≡ s) × (more ≡ other)
unfolding rest_of_parts
one_rest r s more other k l same =
    let both : (parts_of r, more) ≡ (parts_of s, other) =
    same_Some (parts_of r, more) (parts_of s, other) (sym (read_again r more k) ∙ ap rest_front same ∙ read_again s other l) in
    (ap (λ (x : ((List Term × List Unhandled) × State) × List ℕ). rest_of_parts x.0) both, ap (λ (x : ((List Term × List Unhandled) × State) × List ℕ). x.1) both)

-- ---- outcomes

pub behind_alike : (xs more other : List ℕ) → xs ++ more ≡ xs ++ other → more ≡ other
behind_alike [] more other same = same
behind_alike (x ∷ xs) more other same = behind_alike xs more other (ap tail_of same)
  where
    tail_of : List ℕ → List ℕ
    tail_of [] = []
    tail_of (y ∷ ys) = ys

-- no process begins here
abbrev pub NoProcess : List ℕ → Type 0
NoProcess more = begins_by (codes "process ") more ≡ false

not_process : (pid : ℕ) (name rest rests more other : List ℕ) → NoProcess more → more ≡ (head_text pid name ++ rest ++ rests) ++ other → ⊥
not_process pid name rest rests more other none same =
    let begins : begins_by (codes "process ") more ≡ true = ap (begins_by (codes "process ")) same in
    false≢true (sym none ∙ begins)

opened : (head rest rests more : List ℕ) → (head ++ rest ++ rests) ++ more ≡ head ++ (rest ++ (rests ++ more))
opened head rest rests more = append_assoc (head ++ rest) rests more ∙ append_assoc head rest (rests ++ more)

-- where two texts begin by outcomes, behind which no process begins, these are one, where the processes have these names, and the texts go on alike
pub one_front : (pid : ℕ) (names : List (List ℕ)) (a b : List Rest) (more other : List ℕ) → length a ≤ length names → length b ≤ length names
    → All IsReadableRest a → All IsReadableRest b → NoProcess more → NoProcess other → rests_text pid names a ++ more ≡ rests_text pid names b ++ other → (a ≡ b) × (more ≡ other)
one_front pid [] [] [] more other la lb ra rb na nb same = (refl, same)
one_front pid [] (r ∷ rs) b more other la lb ra rb na nb same = absurd (let f : ⊥ = omega (arith, la) in f)
one_front pid [] [] (s ∷ ss) more other la lb ra rb na nb same = absurd (let f : ⊥ = omega (arith, lb) in f)
one_front pid (name ∷ names) [] [] more other la lb ra rb na nb same = (refl, same)
one_front pid (name ∷ names) [] (s ∷ ss) more other la lb ra rb na nb same =
    absurd (not_process pid name (rest_text s) (rests_text (pid + 1) names ss) more other na same)
one_front pid (name ∷ names) (r ∷ rs) [] more other la lb ra rb na nb same =
    absurd (not_process pid name (rest_text r) (rests_text (pid + 1) names rs) other more nb (sym same))
one_front pid (name ∷ names) (r ∷ rs) (s ∷ ss) more other la lb ra rb na nb same =
    let head : List ℕ = head_text pid name in
    let rests : List ℕ = rests_text (pid + 1) names rs in
    let others : List ℕ = rests_text (pid + 1) names ss in
    let behind_heads : rest_text r ++ (rests ++ more) ≡ rest_text s ++ (others ++ other) =
    behind_alike head (rest_text r ++ (rests ++ more)) (rest_text s ++ (others ++ other)) (sym (opened head (rest_text r) rests more) ∙ same ∙ opened head (rest_text s) others other) in
    let both : (r ≡ s) × (rests ++ more ≡ others ++ other) =
    one_rest r s (rests ++ more) (others ++ other) (All-head IsReadableRest r rs ra) (All-head IsReadableRest s ss rb) behind_heads in
    let later : (rs ≡ ss) × (more ≡ other) =
    one_front (pid + 1) names rs ss more other (omega (arith, la)) (omega (arith, lb)) (All-tail IsReadableRest r rs ra) (All-tail IsReadableRest s ss rb) na nb both.1 in
    (ap (λ (x : Rest). x ∷ rs) both.0 ∙ ap (λ (xs : List Rest). s ∷ xs) later.0, later.1)

-- outcomes with one text are one, where the processes have these names
pub one_outcome : (pid : ℕ) (names : List (List ℕ)) (a b : List Rest) → length a ≤ length names → length b ≤ length names → All IsReadableRest a → All IsReadableRest b
    → rests_text pid names a ≡ rests_text pid names b → a ≡ b
one_outcome pid names a b la lb ra rb same =
    (one_front pid names a b [] [] la lb ra rb refl refl (append-nil (rests_text pid names a) ∙ same ∙ sym (append-nil (rests_text pid names b)))).0

-- ---- records

readable_report : (r : Report) → IsStoredEnd r → IsSizedReport r → IsReadableRest (rest_told r)
readable_report r stored sized = record {
  left = All-map IsReadable message_of r.left (λ k d lt. readable_term (message_of (get_or r.left k d)) (stored.left k d lt) (sized.left k d lt));
  queued = All-map IsReadableWaiting unhandled r.queued (λ k d lt. ((stored.queued k d lt).0, ((stored.queued k d lt).1, sized.queued k d lt)));
  state = (stored.state, sized.state);
}

-- what a record tells can be read, where it lies in memory and is no larger than what is read
pub readable_told : (reports : List Report) → AreStoredEnds reports → IsSizedRecord reports → All IsReadableRest (outcome_told reports)
readable_told reports stored sized = All-map IsReadableRest rest_told reports (λ k d lt. readable_report (get_or reports k d) (stored k d lt) (sized k d lt))
